use Rattle.std.proofs.Common.{◌≡◌, ◌+◌, ◌*◌, ◌≤◌, drop, length}
use Rattle.table.specs.Fours.{fours_end}
use Rattle.table.proofs.reader.end_of_code.Given as goal

-- what is left to check gives the result
abbrev pub invariant-loop-thread : goal.invariant-loop-thread
invariant-loop-thread l =
    record {
      left : fours_end l.kind l.thread l.at (drop l.thread l.entries) ≡ fours_end l.kind 0 (6 + 4 * length l.entries) l.entries;
      room : l.at ≤ 6 + 4 * 255 + 400000 * l.thread;
    }
