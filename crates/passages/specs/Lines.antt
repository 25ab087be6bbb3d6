-- The text of each line that the demonstration prints of memories and runs.
use Rattle.std.specs.Prelude.{ℕ, true, false, List, ◌++◌, Some, None, Ok, Err, Option, codes, decimal}
use Rattle.memory.specs.declared.calls.Call.{Call}
use Rattle.memory.specs.declared.calls.Call.TheVariants.{Clear, Look, Word, Idle, Depth, Put, Drain, Exchange}
use Rattle.memory.specs.declared.calls.Reply.{Reply}
use Rattle.memory.specs.declared.calls.Reply.TheVariants.{Done, Number, Exchanged}
use Rattle.model.specs.Memory.{Answer}
use Rattle.model.specs.Refusals.{memory_refusal}
use Rattle.model.specs.Text.{instruction_text, memory_fault_text, place_text, refusal_text}
use Rattle.passages.specs.declared.asked.Asked.{Asked}
use Rattle.passages.specs.declared.stepped.Change.{Change}
use Rattle.passages.specs.declared.stepped.Change.TheVariants as change
use Rattle.passages.specs.declared.stepped.Change.TheVariants.{Register}
use Rattle.passages.specs.declared.stepped.Stepped.{Stepped}

abbrev pub call_text : Call → List ℕ
call_text Clear = codes "clear"
call_text (Look t x) = codes "thread " ++ (decimal t ++ (codes " looks at word " ++ decimal x))
call_text (Word x) = codes "word " ++ (decimal x ++ codes " itself")
call_text (Idle t) = codes "waiting stores of thread " ++ decimal t
call_text Depth = codes "depth"
call_text (Put t x v) = codes "thread " ++ (decimal t ++ (codes " stores " ++ (decimal v ++ (codes " to word " ++ decimal x))))
call_text (Drain t) = codes "drain of thread " ++ decimal t
call_text (Exchange x e v) = codes "exchange of word " ++ (decimal x ++ (codes " from " ++ (decimal e ++ (codes " to " ++ decimal v))))

abbrev pub reply_text : Answer Reply → List ℕ
reply_text (Ok Done) = codes "done"
reply_text (Ok (Number n)) = decimal n
reply_text (Ok (Exchanged true)) = codes "true"
reply_text (Ok (Exchanged false)) = codes "false"
reply_text (Err f) = refusal_text (memory_refusal f) ++ (codes ": " ++ memory_fault_text f)

abbrev pub asked_text : Asked → List ℕ
asked_text a = call_text a.question.call ++ (codes ": " ++ reply_text a.answer.reply)

abbrev pub change_text : Change → List ℕ
change_text (Register r v) = codes "register " ++ (decimal r ++ (codes " is " ++ decimal v))
change_text (change.Word x v) = codes "word " ++ (decimal x ++ (codes " is " ++ decimal v))

abbrev pub change_said : Option Change → List ℕ
change_said (Some c) = change_text c
change_said None = codes "only its place changes"

abbrev pub stepped_text : Stepped → List ℕ
stepped_text s =
    codes "thread " ++ (decimal s.thread ++ (codes ", " ++ (place_text s.place ++ (codes ": " ++ (instruction_text s.instruction ++ (codes "; " ++ change_said s.change))))))
