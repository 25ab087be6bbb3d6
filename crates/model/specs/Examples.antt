-- Worked examples: small tables, and what the definitions say of them.
use Rattle.std.specs.Prelude.{◌≡◌, ℕ, true, List, [], ◌∷◌, length, take, replicate, Some, None, Ok, Err, Option, Result, slice_index, slice_set}
use Rattle.model.specs.Encoding.{encode}
use Rattle.model.specs.Memory.{Memory}
use Rattle.model.specs.Plain.{new_run, step, thread_of}
use Rattle.model.specs.Refusals.{refusal, table_refusal, machine_refusal, replay_refusal, translate_refusal, schedule_refusal}
use Rattle.model.specs.Runs.{Call, asked}
use Rattle.model.specs.Schedule.{new_log, logged_bytes, schedule}
use Rattle.model.specs.StoreBuffer.{Machine, goal, replay}
use Rattle.model.specs.Table.{decode, program_of}
use Rattle.model.specs.Translation.{translate, translated}
use Rattle.model.specs.declared.state.State.{State}
use Rattle.model.specs.declared.faults.Refusal.{Refusal}
use Rattle.model.specs.declared.faults.Layer.TheVariants as layer

-- what a call gives, seen by a function, and how it is refused
abbrev pub given : {A B E : Type 0} → (A → B) → Result A E → Option B
given see (Ok x) = Some (see x)
given see (Err e) = None

abbrev pub refused : {A E : Type 0} → (E → Refusal) → Result A E → Option Refusal
refused by (Ok x) = None
refused by (Err e) = Some (by e)

-- one thread, one word, one register: a FENCE
abbrev pub fence : List ℕ
fence = 1 ∷ 0 ∷ 1 ∷ 1 ∷ 1 ∷ 0 ∷ 10 ∷ 0 ∷ 1 ∷ 0 ∷ 11 ∷ 0 ∷ 0 ∷ 0 ∷ 0 ∷ 0 ∷ []

-- two threads, two words, two registers: each stores 1 to a word of its own and loads the other's
abbrev pub store_buffering : List ℕ
store_buffering =
    1 ∷ 0 ∷ 2 ∷ 2 ∷ 2 ∷ 0 ∷ 14 ∷ 0 ∷ 3 ∷ 0 ∷ 32 ∷ 0 ∷ 3 ∷ 0
    ∷ 0 ∷ 0 ∷ 0 ∷ 1 ∷ 0 ∷ 0 ∷ 10 ∷ 0 ∷ 0 ∷ 0 ∷ 0 ∷ 0 ∷ 9 ∷ 1 ∷ 1 ∷ 0 ∷ 0 ∷ 0
    ∷ 0 ∷ 0 ∷ 0 ∷ 1 ∷ 0 ∷ 0 ∷ 10 ∷ 1 ∷ 0 ∷ 0 ∷ 0 ∷ 0 ∷ 9 ∷ 1 ∷ 0 ∷ 0 ∷ 0 ∷ 0 ∷ []

-- one thread, one word, one register: STORE, STORE, FENCE
abbrev pub two_stores : List ℕ
two_stores =
    1 ∷ 0 ∷ 1 ∷ 1 ∷ 1 ∷ 0 ∷ 10 ∷ 0 ∷ 3 ∷ 0
    ∷ 10 ∷ 0 ∷ 0 ∷ 0 ∷ 0 ∷ 0 ∷ 10 ∷ 0 ∷ 0 ∷ 0 ∷ 0 ∷ 0 ∷ 11 ∷ 0 ∷ 0 ∷ 0 ∷ 0 ∷ 0 ∷ []

-- one thread, one word, two registers: SET 7, STORE, and a LOAD of the same word
abbrev pub own_store : List ℕ
own_store =
    1 ∷ 0 ∷ 1 ∷ 1 ∷ 2 ∷ 0 ∷ 10 ∷ 0 ∷ 3 ∷ 0
    ∷ 0 ∷ 0 ∷ 0 ∷ 7 ∷ 0 ∷ 0 ∷ 10 ∷ 0 ∷ 0 ∷ 0 ∷ 0 ∷ 0 ∷ 9 ∷ 1 ∷ 0 ∷ 0 ∷ 0 ∷ 0 ∷ []

-- two threads of a translated table written by hand: OPEN, FENCE, FENCE in the first, SHUT in the second
abbrev pub sections : List ℕ
sections =
    1 ∷ 1 ∷ 2 ∷ 1 ∷ 1 ∷ 1 ∷ 14 ∷ 0 ∷ 3 ∷ 0 ∷ 32 ∷ 0 ∷ 1 ∷ 0
    ∷ 13 ∷ 0 ∷ 0 ∷ 1 ∷ 0 ∷ 0 ∷ 11 ∷ 0 ∷ 0 ∷ 0 ∷ 0 ∷ 0 ∷ 11 ∷ 0 ∷ 0 ∷ 0 ∷ 0 ∷ 0
    ∷ 14 ∷ 0 ∷ 0 ∷ 0 ∷ 0 ∷ 0 ∷ []

abbrev pub translation : List ℕ → ℕ → List ℕ
translation table k = encode (translated (program_of table) k)

-- memories that held something before
abbrev pub memory_of : ℕ → Memory
memory_of d = record { words = replicate 8 9; pending = replicate 4 (record { word = 0; value = 9 } ∷ []); depth = Some d }

abbrev pub Ending : Type 0
Ending = List ℕ × List ℕ × List ℕ × List ℕ

-- rounds, words, register 1 and places of the first two threads
abbrev pub ending : Machine → Ending
ending m =
    let first = thread_of m.threads 0 in
    let second = thread_of m.threads 1 in
    (take 2 m.rounds, take 2 m.memory.words, slice_index first.registers 1 ∷ slice_index second.registers 1 ∷ [], first.place ∷ second.place ∷ [])

-- the words, register 1 of the first two threads, and whether a section is open
abbrev pub rest : State → List ℕ × List ℕ × Option ℕ
rest s =
    (take 2 s.words, slice_index (thread_of s.threads 0).registers 1 ∷ slice_index (thread_of s.threads 1).registers 1 ∷ [], s.holder)

abbrev pub ask : ℕ → ℕ → Call
ask t w = record { thread = t; way = w }

-- the answer to a call of a run that has taken others
abbrev pub answer : List ℕ → List Call → ℕ → ℕ → Option Refusal
answer table before t w =
    let p = program_of table in
    refused machine_refusal (step p (asked p new_run before) t w)

abbrev pub fence_steps : List ℕ
fence_steps = 0 ∷ 0 ∷ 0 ∷ 0 ∷ 0 ∷ 0 ∷ 0 ∷ 0 ∷ 4 ∷ 0 ∷ 0 ∷ 0 ∷ []

-- each thread of the store-buffering table takes one round at k = 1, and its store is never drained
abbrev pub never_drained : List ℕ
never_drained =
    0 ∷ 0 ∷ 0 ∷ 0 ∷ 0 ∷ 0 ∷ 0 ∷ 0 ∷ 0 ∷ 0 ∷ 4 ∷ 0 ∷ 0 ∷ 4 ∷ 0 ∷ 0 ∷ 0 ∷ 0 ∷ 0 ∷ 0 ∷ 0 ∷ 0 ∷ 0 ∷ 4 ∷ 0 ∷ 0 ∷ 0
    ∷ 1 ∷ 1 ∷ 1 ∷ 1 ∷ 1 ∷ 1 ∷ 1 ∷ 1 ∷ 1 ∷ 1 ∷ 5 ∷ 1 ∷ 1 ∷ 5 ∷ 1 ∷ 1 ∷ 1 ∷ 1 ∷ 1 ∷ 1 ∷ 1 ∷ 1 ∷ 1 ∷ 5 ∷ 1 ∷ 1 ∷ 1 ∷ []

-- the thread of the own store at k = 2: SET and a STORE that is never drained in one round, the LOAD in the next
abbrev pub own_store_steps : List ℕ
own_store_steps =
    0 ∷ 0 ∷ 0 ∷ 0 ∷ 0 ∷ 0 ∷ 0 ∷ 0 ∷ 0 ∷ 0 ∷ 4 ∷ 0 ∷ 0 ∷ 4 ∷ 0 ∷ 0 ∷ 0 ∷ 0 ∷ 0 ∷ 0 ∷ 0 ∷ 0 ∷ 0 ∷ 0 ∷ 0 ∷ 0 ∷ 0
    ∷ 0 ∷ 0 ∷ 0 ∷ 0 ∷ 0 ∷ 0 ∷ 0 ∷ 0 ∷ 0 ∷ 0 ∷ 0 ∷ 0 ∷ 4 ∷ 0 ∷ 0 ∷ 0 ∷ []

abbrev pub ran : List ℕ → ℕ → List ℕ → Option (List ℕ × List ℕ × Option ℕ)
ran table k steps =
    let p = program_of table in
    given (λ r. rest r.0) (logged_bytes p (translated p k) 0 new_run new_log steps)

abbrev pub wrote : List ℕ → ℕ → List ℕ → List ℕ → Option (ℕ × ℕ × List ℕ)
wrote table k steps out =
    given (λ r. (r.0.count, r.0.deepest, r.1)) (schedule table (translation table k) steps out)

pub record SmallTables : Type 0 where
  -- reading
  pub fence_cut : refused table_refusal (decode (take 15 fence)) ≡ Some (refusal 1 15 layer.Table)
  pub no_threads : refused table_refusal (decode (slice_set fence 2 0)) ≡ Some (refusal 2 2 layer.Table)
  pub five_threads : refused table_refusal (decode (slice_set fence 2 5)) ≡ Some (refusal 2 2 layer.Table)
  pub op_of_translated : refused table_refusal (decode (slice_set fence 10 13)) ≡ Some (refusal 4 10 layer.Table)
  pub unused_operand : refused table_refusal (decode (slice_set fence 11 1)) ≡ Some (refusal 5 11 layer.Table)
  -- translating
  pub fence_size : length (translation fence 1) ≡ 100
  pub fence_registers : (translated (program_of fence) 1).registers ≡ 5
  pub no_rounds : refused translate_refusal (translate fence 0 []) ≡ Some (refusal 6 0 layer.Translation)
  pub five_rounds : refused translate_refusal (translate fence 5 []) ≡ Some (refusal 6 5 layer.Translation)
  pub no_room : refused translate_refusal (translate fence 1 (replicate 99 7)) ≡ Some (refusal 8 100 layer.Translation)
  pub store_buffering_size : length (translation store_buffering 2) ≡ 626
  pub store_buffering_registers : (translated (program_of store_buffering) 2).registers ≡ 12
  pub translation_is_read : given (λ p. p.rounds) (decode (translation store_buffering 2)) ≡ Some 2
  -- the schedule of twelve steps, and of eleven
  pub fence_schedule : wrote fence 1 fence_steps (7 ∷ 7 ∷ []) ≡ Some (1, 0, 0 ∷ 7 ∷ [])
  pub fence_section_open : refused schedule_refusal (schedule fence (translation fence 1) (take 11 fence_steps) []) ≡ Some (refusal 14 11 layer.Translation)
  pub another_translation : refused schedule_refusal (schedule fence (translation two_stores 1) fence_steps []) ≡ Some (refusal 13 8 layer.Translation)
  -- replaying
  pub both_zero : given ending (replay store_buffering (0 ∷ 0 ∷ 0 ∷ 1 ∷ 1 ∷ 1 ∷ 9 ∷ 8 ∷ []) (memory_of 64)).0 ≡ Some (2 ∷ 1 ∷ [], 1 ∷ 1 ∷ [], 0 ∷ 0 ∷ [], 3 ∷ 3 ∷ [])
  pub both_zero_goal : (goal store_buffering (0 ∷ 0 ∷ 0 ∷ 1 ∷ 1 ∷ 1 ∷ 9 ∷ 8 ∷ []) (1 ∷ 1 ∷ []) (memory_of 64)).0 ≡ Ok true
  pub short_goal : refused replay_refusal (goal store_buffering [] (1 ∷ []) (memory_of 64)).0 ≡ Some (refusal 17 1 layer.Machine)
  pub nothing_pending : refused replay_refusal (replay store_buffering (0 ∷ 0 ∷ 0 ∷ 1 ∷ 1 ∷ 1 ∷ 9 ∷ []) (memory_of 0)).0 ≡ Some (refusal 16 6 layer.Memory)
  pub fence_waits : refused replay_refusal (replay two_stores (0 ∷ 0 ∷ 0 ∷ []) (memory_of 64)).0 ≡ Some (refusal 11 2 layer.Machine)
  pub full_at_one : refused replay_refusal (replay two_stores (0 ∷ 0 ∷ []) (memory_of 1)).0 ≡ Some (refusal 15 1 layer.Memory)
  pub no_line : refused replay_refusal (replay two_stores (0 ∷ 12 ∷ []) (memory_of 1)).0 ≡ Some (refusal 12 1 layer.Machine)
  -- one round for each thread suffices for both loads to see 0
  pub one_round : ran store_buffering 1 never_drained ≡ Some (0 ∷ 0 ∷ [], 0 ∷ 0 ∷ [], None)
  pub one_round_schedule : wrote store_buffering 1 never_drained (replicate 7 9) ≡ Some (6, 1, 0 ∷ 0 ∷ 0 ∷ 1 ∷ 1 ∷ 1 ∷ 9 ∷ [])
  -- a thread sees its own store in a later round although it is never drained
  pub own_store_seen : ran own_store 2 own_store_steps ≡ Some (0 ∷ 0 ∷ [], 7 ∷ 0 ∷ [], None)
  pub own_store_schedule : wrote own_store 2 own_store_steps (replicate 3 9) ≡ Some (3, 1, 0 ∷ 0 ∷ 0 ∷ [])
  -- the order of a step's refusals, and SHUT for the holder alone
  pub no_such_thread : answer fence [] 1 7 ≡ Some (refusal 9 1 layer.Machine)
  pub ended_before_way : answer fence (ask 0 0 ∷ []) 0 7 ≡ Some (refusal 11 1 layer.Machine)
  pub way_before_section : answer sections (ask 0 0 ∷ []) 1 1 ≡ Some (refusal 10 0 layer.Machine)
  pub section_of_another : answer sections (ask 0 0 ∷ []) 1 0 ≡ Some (refusal 11 0 layer.Machine)
  pub shut_unheld : answer sections [] 1 0 ≡ Some (refusal 11 0 layer.Machine)
