-- What is encoded is read back: the encoding of a well formed program is bytes, and decodes to the program.
use Rattle.std.proofs.Common.{◌≡◌, ℕ, suc, ◌+◌, ◌*◌, ◌/◌, ◌%◌, ◌<◌, ◌≤◌, true, ◌&&◌, eqb, leb, ◌⊎◌, List, [], ◌∷◌, ◌++◌, length, get_or, drop, Ok, sym, refl, ap, ◌∙◌, subst, arith}
use Rattle.std.proofs.lemmas.List.{append_assoc, drop_at, length-append}
use Rattle.std.proofs.lemmas.Bool.{le-leb, eq-eqb, and_from}
use Rattle.model.specs.Table.{decode, table_fault, header_fault, entries_end, codes_fault, codes_at, code_fault, code_at, instruction_fault, instruction_at, instruction_of, fields_fault, position, count, entry_at, limits, kind_of, within, ops, most_registers, most_instructions, least_rounds, most_rounds, program_of}
use Rattle.model.specs.Encoding.{Bytes, six, encode, encode_instruction, encode_code, encode_codes, entries, kind_byte, InRange, EachInRange, CodesInRange, EncodedIsReadBack}
use Rattle.model.specs.declared.code.Kind.{Kind}
use Rattle.model.specs.declared.code.Kind.TheVariants.{Source, Translated}
use Rattle.model.specs.declared.code.Instruction.{Instruction}
use Rattle.model.specs.declared.code.Instruction.TheVariants.{Set, Move, Add, Inc, Jump, IfEq, IfLt, Pick, Wait, Load, Store, Fence, Arw, Open, Shut, Call, Back}
use Rattle.model.specs.declared.code.Limits.{Limits}
use Rattle.model.proofs.Reading.{FieldsFit, limits_for, ops_cases, pass, pass_demand, demand_met, pass_fields, fields_from, drop_from, two_from}

-- an instruction by its fields, which are bytes, fit the limits, and spell it
record Spelled (l : Limits) (i : Instruction) : Type 0 where
  op : ℕ
  p : ℕ
  q : ℕ
  r : ℕ
  t : ℕ
  spells : encode_instruction i ≡ six op p q r t
  reads : instruction_of op p q r t ≡ i
  fits : FieldsFit l op p q r t
  bytes : Bytes (six op p q r t)

spell : {l : Limits} {i : Instruction} (op p q r t : ℕ) → encode_instruction i ≡ six op p q r t
    → instruction_of op p q r t ≡ i → FieldsFit l op p q r t → Bytes (six op p q r t) → Spelled l i
spell op p q r t s i f b =
    record { op = op; p = p; q = q; r = r; t = t; spells = s; reads = i; fits = f; bytes = b }

bytes_append : (xs ys : List ℕ) → Bytes xs → Bytes ys → Bytes (xs ++ ys)
bytes_append [] ys h k = k
bytes_append (x ∷ xs) ys h k = (h.0, bytes_append xs ys h.1 k)

-- what holds of an instruction that stands at a position, and of the bytes after it
record InstructionRead (l : Limits) (bs : List ℕ) (at : ℕ) (i : Instruction) (rest : List ℕ) : Type 0 where
  passes : instruction_fault l bs at ≡ Ok tt
  reads : instruction_at bs at ≡ i
  after : drop (at + 6) bs ≡ rest
  bytes : Bytes (encode_instruction i)
  long : length (encode_instruction i) ≡ 6

instruction_read : (l : Limits) (bs : List ℕ) (at : ℕ) (i : Instruction) (rest : List ℕ) → Spelled l i
    → drop at bs ≡ encode_instruction i ++ rest → InstructionRead l bs at i rest
instruction_read l bs at i rest s e =
    let fields : drop at bs ≡ six s.op s.p s.q s.r s.t ++ rest = e ∙ ap (λ x. x ++ rest) s.spells in
    record {
      passes = fields_from (fields_fault l at) bs at _ _ _ _ _ rest fields ∙ pass_fields l at _ _ _ _ _ s.fits;
      reads = fields_from instruction_of bs at _ _ _ _ _ rest fields ∙ s.reads;
      after = drop_from bs at 6 (at + 6) _ fields refl;
      bytes = subst Bytes (sym s.spells) s.bytes;
      long = ap length s.spells;
    }

-- what holds of code that stands at a position, and of the bytes after it
record CodeRead (l : Limits) (bs : List ℕ) (at : ℕ) (c : List Instruction) (rest : List ℕ) : Type 0 where
  passes : code_fault l bs at (length c) ≡ Ok tt
  reads : code_at bs at (length c) ≡ c
  after : drop (at + 6 * length c) bs ≡ rest
  bytes : Bytes (encode_code c)
  long : length (encode_code c) ≡ 6 * length c

module _ (k : Kind) (g m n : ℕ) (o : (ops k ≡ 13) ⊎ (ops k ≡ 17)) (hg : g ≤ 82) (hm : m ≤ 8) (hn : n ≤ 1400) where
  spelled : (i : Instruction) → InRange k g m n i → Spelled (limits_for k g m n) i
  spelled (Set p r) h = spell 0 p 0 r 0 refl refl (omega arith) (omega arith)
  spelled (Move p q) h = spell 1 p q 0 0 refl refl (omega arith) (omega arith)
  spelled (Add p q) h = spell 2 p q 0 0 refl refl (omega arith) (omega arith)
  spelled (Inc p r) h = spell 3 p 0 r 0 refl refl (omega arith) (omega arith)
  spelled (Jump t) h = spell 4 0 0 0 t refl refl (omega arith) (omega arith)
  spelled (IfEq p r t) h = spell 5 p 0 r t refl refl (omega arith) (omega arith)
  spelled (IfLt p q t) h = spell 6 p q 0 t refl refl (omega arith) (omega arith)
  spelled (Pick t) h = spell 7 0 0 0 t refl refl (omega arith) (omega arith)
  spelled (Wait p q) h = spell 8 p q 0 0 refl refl (omega arith) (omega arith)
  spelled (Load p q) h = spell 9 p q 0 0 refl refl (omega arith) (omega arith)
  spelled (Store p q) h = spell 10 p q 0 0 refl refl (omega arith) (omega arith)
  spelled Fence h = spell 11 0 0 0 0 refl refl (omega arith) (omega arith)
  spelled (Arw p q r) h = spell 12 p q r 0 refl refl (omega arith) (omega arith)
  spelled (Open p r) h = spell 13 p 0 r 0 refl refl (omega arith) (omega arith)
  spelled (Shut t) h = spell 14 0 0 0 t refl refl (omega arith) (omega arith)
  spelled (Call t) h = spell 15 0 0 0 t refl refl (omega arith) (omega arith)
  spelled Back h = spell 16 0 0 0 0 refl refl (omega arith) (omega arith)

  code_read : (bs : List ℕ) (at : ℕ) (c : List Instruction) (rest : List ℕ) → EachInRange k g m n c
      → drop at bs ≡ encode_code c ++ rest → CodeRead (limits_for k g m n) bs at c rest
  code_read bs at [] rest h e =
      record { passes = refl; reads = refl; after = drop_from bs at 0 (at + 6 * 0) rest e refl; bytes = tt; long = refl }
  code_read bs at (i ∷ is) rest h e =
      let l = limits_for k g m n in
      let first = instruction_read l bs at i (encode_code is ++ rest) (spelled i h.0)
      (e ∙ append_assoc (encode_instruction i) (encode_code is) rest) in
      let later = code_read bs (at + 6) is rest h.1 first.after in
      let next : at + 6 * suc (length is) ≡ at + 6 + 6 * length is = omega arith in
      record {
        passes = pass (instruction_fault l bs at) _ tt (Ok tt) first.passes later.passes;
        reads = cc (first.reads, later.reads);
        after = ap (λ x. drop x bs) next ∙ later.after;
        bytes = bytes_append (encode_instruction i) (encode_code is) first.bytes later.bytes;
        long = omega (arith, length-append (encode_instruction i) (encode_code is), first.long, later.long);
      }

-- the codes of all threads, by their entries
record CodesRead (k : Kind) (bs : List ℕ) (thread at : ℕ) (cs : List (List Instruction)) : Type 0 where
  ends : entries_end k bs thread at (length cs) ≡ Ok (at + length (encode_codes cs))
  passes : codes_fault bs thread (length cs) ≡ Ok tt
  reads : codes_at bs thread (length cs) ≡ cs
  bytes : Bytes (encode_codes cs)

kind_limits : (k : Kind)
    → (most_instructions k ≤ 1400) × (most_registers k ≤ 82) × (most_rounds k ≤ 4) × (kind_byte k ≤ 1)
kind_limits Source = omega arith
kind_limits Translated = omega arith

entry_ends : (k : Kind) (bs : List ℕ) (thread at c n end : ℕ) → position bs thread ≡ at → count bs thread ≡ c
    → 1 ≤ c → c ≤ most_instructions k → entries_end k bs (thread + 1) (at + 6 * c) n ≡ Ok end
    → entries_end k bs thread at (suc n) ≡ Ok end
entry_ends k bs thread at c n end p q low high h =
    pass_demand (eqb (position bs thread) at && within 1 (count bs thread) (most_instructions k)) _ _ (Ok end)
    (and_from _ _ (eq-eqb (position bs thread) at p)
    (and_from _ _ (le-leb 1 (count bs thread) (omega arith)) (le-leb (count bs thread) (most_instructions k) (omega arith))))
    (subst (λ x. entries_end k bs (thread + 1) (at + 6 * x) n ≡ Ok end) (sym q) h)

module _ (k : Kind) (g m : ℕ) (hg : g ≤ 82) (hm : m ≤ 8) (bs : List ℕ)
    (kind : kind_of (get_or bs 1 0) ≡ k) (registers : get_or bs 4 0 ≡ g) (words : get_or bs 3 0 ≡ m) where
  codes_read : (thread at : ℕ) (cs : List (List Instruction)) (rest : List ℕ) → CodesInRange k g m cs
      → drop (entry_at thread) bs ≡ entries at cs ++ rest → drop at bs ≡ encode_codes cs → CodesRead k bs thread at cs
  codes_read thread at [] rest h e f =
      record { ends = ap Ok (omega arith); passes = refl; reads = refl; bytes = tt }
  codes_read thread at (c ∷ cs) rest h e f =
      let ys = entries at (c ∷ cs) ++ rest in
      let start : position bs thread ≡ at =
      two_from bs (entry_at thread) 0 (entry_at thread) at ys _ e (omega arith) refl in
      let long : count bs thread ≡ length c =
      two_from bs (entry_at thread) 2 (entry_at thread + 2) (length c) ys _ e refl refl in
      let first = code_read k g m (length c) (ops_cases k) hg hm (omega (arith, kind_limits k))
      bs at c (encode_codes cs) h.0.2 f in
      let later = codes_read (thread + 1) (at + 6 * length c) cs rest h.1
      (drop_from bs (entry_at thread) 4 (entry_at (thread + 1)) ys e (omega arith)) first.after in
      let all : at + 6 * length c + length (encode_codes cs) ≡ at + length (encode_codes (c ∷ cs)) =
      omega (arith, length-append (encode_code c) (encode_codes cs), first.long) in
      record {
        ends = entry_ends k bs thread at (length c) (length cs) _ start long h.0.0 h.0.1 (later.ends ∙ ap Ok all);
        passes = pass (code_fault (limits bs thread) bs (position bs thread) (count bs thread)) _ tt (Ok tt)
            (cc first.passes) later.passes;
        reads = cc (first.reads, later.reads);
        bytes = bytes_append (encode_code c) (encode_codes cs) first.bytes later.bytes;
      }

entries_bytes : (k : Kind) (g m at : ℕ) (cs : List (List Instruction)) → CodesInRange k g m cs
    → at + 8400 * length cs < 65536 → Bytes (entries at cs)
entries_bytes k g m at [] h l = tt
entries_bytes k g m at (c ∷ cs) h l =
    let n : length c ≤ 1400 = omega (arith, kind_limits k) in
    bytes_append (at % 256 ∷ at / 256 ∷ length c % 256 ∷ length c / 256 ∷ []) _ (omega arith)
    (entries_bytes k g m (at + 6 * length c) cs h.1 (omega arith))

entries_length : (at : ℕ) (cs : List (List Instruction)) → length (entries at cs) ≡ 4 * length cs
entries_length at [] = refl
entries_length at (c ∷ cs) = omega (arith, entries_length (at + 6 * length c) cs)

kind_back : (k : Kind) → kind_of (kind_byte k) ≡ k
kind_back Source = refl
kind_back Translated = refl

within_true : (low n high : ℕ) → (low ≤ n) × (n ≤ high) → within low n high ≡ true
within_true low n high h = and_from _ _ (le-leb low n h.0) (le-leb n high h.1)

module _ (bs : List ℕ) (k : Kind) (kind : kind_of (get_or bs 1 0) ≡ k) where
  header_passes : get_or bs 0 0 ≡ 1 → get_or bs 1 0 ≤ 1
      → (1 ≤ get_or bs 2 0) × (get_or bs 2 0 ≤ 4) → (1 ≤ get_or bs 3 0) × (get_or bs 3 0 ≤ 8)
      → (1 ≤ get_or bs 4 0) × (get_or bs 4 0 ≤ most_registers k)
      → (least_rounds k ≤ get_or bs 5 0) × (get_or bs 5 0 ≤ most_rounds k) → header_fault bs ≡ Ok tt
  header_passes edition low threads words registers rounds =
      pass_demand (eqb (get_or bs 0 0) 1) _ _ (Ok tt) (eq-eqb _ _ edition)
      (pass_demand (leb (get_or bs 1 0) 1) _ _ (Ok tt) (le-leb _ _ low)
      (pass_demand (within 1 (get_or bs 2 0) 4) _ _ (Ok tt) (within_true _ _ _ threads)
      (pass_demand (within 1 (get_or bs 3 0) 8) _ _ (Ok tt) (within_true _ _ _ words)
      (pass_demand (within 1 (get_or bs 4 0) (most_registers (kind_of (get_or bs 1 0)))) _ _ (Ok tt)
      (cc (within_true _ _ _ registers))
      (demand_met (within (least_rounds (kind_of (get_or bs 1 0))) (get_or bs 5 0) (most_rounds (kind_of (get_or bs 1 0)))) _
      (cc (within_true _ _ _ rounds)))))))

  table_read : (cs : List (List Instruction)) (at : ℕ) → at ≡ 6 + 4 * get_or bs 2 0 → get_or bs 2 0 ≡ length cs
      → header_fault bs ≡ Ok tt → at + length (encode_codes cs) ≡ length bs → CodesRead k bs 0 at cs
      → decode bs ≡ Ok (record { kind = k; words = get_or bs 3 0; registers = get_or bs 4 0; rounds = get_or bs 5 0; code = cs })
  table_read cs at start threads header long r =
      let codes : codes_fault bs 0 (get_or bs 2 0) ≡ Ok tt = cc r.passes in
      let sound : table_fault bs ≡ Ok tt =
      pass_demand (leb 6 (length bs)) _ _ (Ok tt) (le-leb _ _ (omega arith))
      (pass (header_fault bs) _ tt (Ok tt) header
      (pass_demand (leb (6 + 4 * get_or bs 2 0) (length bs)) _ _ (Ok tt) (le-leb _ _ (omega arith))
      (pass (entries_end (kind_of (get_or bs 1 0)) bs 0 (6 + 4 * get_or bs 2 0) (get_or bs 2 0)) _ (length bs) (Ok tt)
      (cc r.ends)
      (pass_demand (eqb (length bs) (length bs)) _ _ (Ok tt) (eq-eqb _ _ refl) codes)))) in
      pass (table_fault bs) (λ _. Ok (program_of bs)) tt (Ok _) sound (cc r.reads)

pub encoded_is_read_back : EncodedIsReadBack
encoded_is_read_back p w =
    let k = p.kind in
    let cs = p.code in
    let at = 6 + 4 * length cs in
    let body = entries at cs ++ encode_codes cs in
    let few : p.registers ≤ 82 = omega (arith, kind_limits k) in
    let short : p.rounds ≤ 4 = omega (arith, kind_limits k) in
    let after : drop at (encode p) ≡ encode_codes cs =
    drop_from (encode p) 6 (4 * length cs) at body refl refl
    ∙ drop_at (entries at cs) (encode_codes cs) (4 * length cs) (entries_length at cs) in
    let r = codes_read k p.registers p.words few w.words.1 (encode p) (kind_back k) refl refl
    0 at cs (encode_codes cs) w.code refl after in
    let long : at + length (encode_codes cs) ≡ length (encode p) =
    omega (arith, length-append (entries at cs) (encode_codes cs), entries_length at cs) in
    let front = 1 ∷ kind_byte k ∷ length cs ∷ p.words ∷ p.registers ∷ p.rounds ∷ [] in
    let table = entries_bytes k p.registers p.words at cs w.code (omega arith) in
    let header =
    header_passes (encode p) k (kind_back k) refl (kind_limits k).3 w.threads w.words w.registers w.rounds in (
      bytes_append front body (omega (arith, kind_limits k)) (bytes_append (entries at cs) (encode_codes cs) table r.bytes),
      table_read (encode p) k (kind_back k) cs at refl refl header long r,
    )
