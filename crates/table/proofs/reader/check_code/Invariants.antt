use Rattle.std.proofs.Common.{◌≡◌, drop}
use Rattle.table.specs.Sixes.{sixes_fault}
use Rattle.table.proofs.reader.check_code.Given as goal

-- what is left to check gives the result
abbrev pub invariant-loop-index : goal.invariant-loop-index
invariant-loop-index l =
    sixes_fault l.limits l.start l.index (drop l.index l.code) ≡ sixes_fault l.limits l.start 0 l.code
