use Rattle.std.proofs.Common.{◌≡◌, ◌↔◌, IsTrue, drop}
use Rattle.memory.specs.Calls.{called, replies}
use Rattle.memory.proofs.compare.compare.Given as goal

-- the calls that are left give the result
abbrev pub invariant-loop-call : goal.invariant-loop-call
invariant-loop-call g l =
    let m = g.A.SharedMemory.value l.first in
    let n = g.B.SharedMemory.value l.second in
    let cs = drop l.call-index l.calls in
    record {
      first : called m cs ≡ called (g.A.SharedMemory.value l.initial.first) l.calls;
      second : called n cs ≡ called (g.B.SharedMemory.value l.initial.second) l.calls;
      agreed : (IsTrue l.agreed × (replies m cs ≡ replies n cs))
          ↔ (replies (g.A.SharedMemory.value l.initial.first) l.calls ≡ replies (g.B.SharedMemory.value l.initial.second) l.calls);
    }
