use Rattle.std.proofs.Common.{◌≡◌, ◌-◌}
use Rattle.model.specs.Table.{codes_fault}
use Rattle.table.proofs.reader.check_threads.Given as goal

-- what is left to check gives the result
abbrev pub invariant-loop-thread : goal.invariant-loop-thread
invariant-loop-thread l =
    codes_fault l.layout.bytes.now l.thread (l.thread-end - l.thread) ≡ codes_fault l.layout.bytes.now 0 l.thread-end
