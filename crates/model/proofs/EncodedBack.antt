-- What is read is encoded back: a program that bytes decode to is well formed, and its encoding is those bytes.
use Rattle.std.proofs.Common.{◌≡◌, ℕ, zero, suc, ◌+◌, ◌*◌, ◌<◌, ◌≤◌, true, ◌&&◌, eqb, leb, ◌⊎◌, List, ◌++◌, length, get_or, drop, Ok, sym, refl, ap, ◌∙◌, subst, ⊎_elim, arith}
use Rattle.std.proofs.lemmas.List.{append_assoc, append-nil, drop_all, drop_more}
use Rattle.std.proofs.lemmas.Bool.{leb-true, eqb-true, and_parts, cases_eq}
use Rattle.model.specs.Table.{table_fault, header_fault, entries_end, codes_fault, codes_at, code_fault, code_at, instruction_fault, instruction_at, instruction_of, position, count, entry_at, limits, kind_of, within, ops, most_registers, most_instructions, least_rounds, most_rounds, program_of}
use Rattle.model.specs.Encoding.{Bytes, six, encode, encode_instruction, encode_code, encode_codes, entries, kind_byte, InRange, EachInRange, CodeInRange, CodesInRange, WellFormed, ReadIsEncodedBack}
use Rattle.model.specs.declared.code.Kind.{Kind}
use Rattle.model.specs.declared.code.Instruction.{Instruction}
use Rattle.model.proofs.Reading.{FieldsFit, entries_onward, limits_for, ops_cases, passed, passed_demand, demanded, passed_fields, drop_two, drop_six}

-- a statement on each of so many numbers from one on, and on any number among them
infixr 20 ◌▸◌
data EachFrom (P : ℕ → Type 0) : ℕ → ℕ → Type 0 where
  none : {start : ℕ} → EachFrom P start zero
  ◌▸◌ : {start n : ℕ} → P start → EachFrom P (suc start) n → EachFrom P start (suc n)

each_from : (P : ℕ → Type 0) (start n : ℕ) → EachFrom P start n → (i : ℕ) → start ≤ i → i < start + n → P i
each_from P start n none i low high = absurd (omega arith)
each_from P start n (◌▸◌ {n = m} here later) i low high =
    ⊎_elim (λ (e : start ≡ i). subst P e here)
    (λ (d : start ≡ i → ⊥). each_from P (suc start) m later i (omega arith) (omega arith)) (cases_eq start i)

same_six : (op p q r t p' q' r' t' : ℕ) → (p ≡ p') × (q ≡ q') × (r ≡ r') × (t ≡ t')
    → six op p q r t ≡ six op p' q' r' t'
same_six op p q r t p' q' r' t' h = cc

-- fields that fit spell the instruction that they are read as, and it is in range: unused fields are 0
module _ (k : Kind) (g m n p q r t : ℕ) (o : (ops k ≡ 13) ⊎ (ops k ≡ 17)) where
  abbrev SpelledBack : ℕ → Type 0
  SpelledBack op =
      FieldsFit (limits_for k g m n) op p q r t
      → (encode_instruction (instruction_of op p q r t) ≡ six op p q r t) × InRange k g m n (instruction_of op p q r t)

  each_spelled_back : EachFrom SpelledBack 0 17
  each_spelled_back =
      (λ h. (same_six 0 p 0 r 0 p q r t (omega arith), omega arith))
      ▸ (λ h. (same_six 1 p q 0 0 p q r t (omega arith), omega arith))
      ▸ (λ h. (same_six 2 p q 0 0 p q r t (omega arith), omega arith))
      ▸ (λ h. (same_six 3 p 0 r 0 p q r t (omega arith), omega arith))
      ▸ (λ h. (same_six 4 0 0 0 t p q r t (omega arith), omega arith))
      ▸ (λ h. (same_six 5 p 0 r t p q r t (omega arith), omega arith))
      ▸ (λ h. (same_six 6 p q 0 t p q r t (omega arith), omega arith))
      ▸ (λ h. (same_six 7 0 0 0 t p q r t (omega arith), omega arith))
      ▸ (λ h. (same_six 8 p q 0 0 p q r t (omega arith), omega arith))
      ▸ (λ h. (same_six 9 p q 0 0 p q r t (omega arith), omega arith))
      ▸ (λ h. (same_six 10 p q 0 0 p q r t (omega arith), omega arith))
      ▸ (λ h. (same_six 11 0 0 0 0 p q r t (omega arith), omega arith))
      ▸ (λ h. (same_six 12 p q r 0 p q r t (omega arith), omega arith))
      ▸ (λ h. (same_six 13 p 0 r 0 p q r t (omega arith), omega arith))
      ▸ (λ h. (same_six 14 0 0 0 t p q r t (omega arith), omega arith))
      ▸ (λ h. (same_six 15 0 0 0 t p q r t (omega arith), omega arith))
      ▸ (λ h. (same_six 16 0 0 0 0 p q r t (omega arith), omega arith))
      ▸ none

  spelled_back : (op : ℕ) → SpelledBack op
  spelled_back op h = each_from SpelledBack 0 17 each_spelled_back op (omega arith) (omega arith) h

joined_up : (xs ys rest middle all : List ℕ) → ys ++ rest ≡ middle → xs ++ middle ≡ all → (xs ++ ys) ++ rest ≡ all
joined_up xs ys rest middle all e h = append_assoc xs ys rest ∙ ap (λ x. xs ++ x) e ∙ h

within_parts : (low n high : ℕ) → within low n high ≡ true → (low ≤ n) × (n ≤ high)
within_parts low n high h =
    let parts = and_parts _ _ h in
    (leb-true low n parts.0, leb-true n high parts.1)

code_in_range : (k : Kind) (g m n : ℕ) (c : List Instruction) → length c ≡ n → 1 ≤ n → n ≤ most_instructions k
    → EachInRange k g m n c → CodeInRange k g m c
code_in_range k g m n c e low high h = (omega arith, omega arith, subst (λ x. EachInRange k g m x c) (sym e) h)

-- code that passes is in range, and its encoding is the bytes that it was read from
module _ (k : Kind) (g m n : ℕ) (bs : List ℕ) (bytes : Bytes bs) where
  code_back : (at long : ℕ) → code_fault (limits_for k g m n) bs at long ≡ Ok tt → at + 6 * long ≤ length bs
      → (encode_code (code_at bs at long) ++ drop (at + 6 * long) bs ≡ drop at bs)
      × EachInRange k g m n (code_at bs at long) × (length (code_at bs at long) ≡ long)
  code_back at zero h l = (ap (λ x. drop x bs) (omega arith), tt, refl)
  code_back at (suc long) h l =
      let a = passed (instruction_fault (limits_for k g m n) bs at) _ tt h in
      let fits = passed_fields (limits_for k g m n) at _ _ _ _ _ a.1 in
      let first = spelled_back k g m n _ _ _ _ (ops_cases k) _ fits in
      let later = code_back (at + 6) long a.2 (omega arith) in
      let bytes_here : encode_instruction (instruction_at bs at) ++ drop (at + 6) bs ≡ drop at bs =
      ap (λ x. x ++ drop (at + 6) bs) first.0 ∙ sym (drop_six bs at bytes (omega arith)) in
      let bytes_after : encode_code (code_at bs (at + 6) long) ++ drop (at + 6 * suc long) bs ≡ drop (at + 6) bs =
      ap (λ x. encode_code (code_at bs (at + 6) long) ++ drop x bs) (omega arith) ∙ later.0 in
      (joined_up _ _ _ _ _ bytes_after bytes_here, (first.1, later.1), ap suc later.2)

-- all threads' codes: their entries and their encodings are the bytes that they were read from
record CodesBack (bs : List ℕ) (thread at end n : ℕ) : Type 0 where
  entry_bytes : entries at (codes_at bs thread n) ++ drop (entry_at thread + 4 * n) bs ≡ drop (entry_at thread) bs
  code_bytes : encode_codes (codes_at bs thread n) ++ drop end bs ≡ drop at bs
  in_range : CodesInRange (kind_of (get_or bs 1 0)) (get_or bs 4 0) (get_or bs 3 0) (codes_at bs thread n)
  long : length (codes_at bs thread n) ≡ n

module _ (bs : List ℕ) (bytes : Bytes bs) where
  codes_back : (thread at end n : ℕ) → entries_end (kind_of (get_or bs 1 0)) bs thread at n ≡ Ok end
      → codes_fault bs thread n ≡ Ok tt → entry_at thread + 4 * n ≤ length bs → end ≤ length bs
      → CodesBack bs thread at end n
  codes_back thread at end zero h f room l =
      let same : at ≡ end = cc in
      record {
        entry_bytes = ap (λ x. drop x bs) (omega arith);
        code_bytes = ap (λ x. drop x bs) (sym same);
        in_range = tt;
        long = refl;
      }
  codes_back thread at end (suc n) h f room l =
      let k = kind_of (get_or bs 1 0) in
      let g = get_or bs 4 0 in
      let m = get_or bs 3 0 in
      let c = count bs thread in
      let a = passed_demand (eqb (position bs thread) at && within 1 c (most_instructions k)) _ _ end h in
      let b = passed (code_fault (limits bs thread) bs (position bs thread) c) (λ _. codes_fault bs (thread + 1) n) tt f in
      let later = codes_back (thread + 1) (at + 6 * c) end n a.1 b.2 (omega arith) l in
      let tests = and_parts _ _ a.0 in
      let start : position bs thread ≡ at = eqb-true _ _ tests.0 in
      let few = within_parts 1 c (most_instructions k) tests.1 in
      let first = code_back k g m c bs bytes (position bs thread) c b.1 (omega (arith, entries_onward k bs (thread + 1) (at + 6 * c) n end a.1)) in
      let low = drop_two bs (entry_at thread) (entry_at thread + 2) bytes refl (omega arith) in
      let high = drop_two bs (entry_at thread + 2) (entry_at (thread + 1)) bytes (omega arith) (omega arith) in
      let rest : entry_at (thread + 1) + 4 * n ≡ entry_at thread + 4 * suc n = omega arith in
      let here : encode_code (code_at bs (position bs thread) c) ++ drop (at + 6 * c) bs ≡ drop at bs = cc first.0 in
      record {
        entry_bytes = cc (low, high, later.entry_bytes, first.2);
        code_bytes = joined_up _ _ _ _ _ later.code_bytes here;
        in_range = (code_in_range k g m c _ first.2 few.0 few.1 first.1, later.in_range);
        long = ap suc later.long;
      }

kind_byte_back : (b : ℕ) → b ≤ 1 → kind_byte (kind_of b) ≡ b
kind_byte_back zero h = refl
kind_byte_back (suc zero) h = refl
kind_byte_back (suc (suc b)) h = absurd (omega arith)

-- what a header that passes says
pub record HeaderBack (bs : List ℕ) (k : Kind) : Type 0 where
  edition : get_or bs 0 0 ≡ 1
  kind : get_or bs 1 0 ≤ 1
  pub threads : (1 ≤ get_or bs 2 0) × (get_or bs 2 0 ≤ 4)
  words : (1 ≤ get_or bs 3 0) × (get_or bs 3 0 ≤ 8)
  registers : (1 ≤ get_or bs 4 0) × (get_or bs 4 0 ≤ most_registers k)
  rounds : (least_rounds k ≤ get_or bs 5 0) × (get_or bs 5 0 ≤ most_rounds k)

module _ (bs : List ℕ) where
  pub header_back : header_fault bs ≡ Ok tt → HeaderBack bs (kind_of (get_or bs 1 0))
  header_back h =
      let a = passed_demand (eqb (get_or bs 0 0) 1) _ _ tt h in
      let b = passed_demand (leb (get_or bs 1 0) 1) _ _ tt a.1 in
      let c = passed_demand (within 1 (get_or bs 2 0) 4) _ _ tt b.1 in
      let d = passed_demand (within 1 (get_or bs 3 0) 8) _ _ tt c.1 in
      let e = passed_demand (within 1 (get_or bs 4 0) (most_registers (kind_of (get_or bs 1 0)))) _ _ tt d.1 in
      record {
        edition = eqb-true _ _ a.0;
        kind = leb-true _ _ b.0;
        threads = within_parts _ _ _ c.0;
        words = within_parts _ _ _ d.0;
        registers = within_parts _ _ _ e.0;
        rounds = within_parts _ _ _ (demanded _ _ e.1);
      }

  encoded_bytes : 6 ≤ length bs → HeaderBack bs (kind_of (get_or bs 1 0))
      → CodesBack bs 0 (6 + 4 * get_or bs 2 0) (length bs) (get_or bs 2 0) → encode (program_of bs) ≡ bs
  encoded_bytes room header r =
      let kind = kind_byte_back (get_or bs 1 0) header.kind in
      let a = drop_more bs 0 0 (omega arith) in
      let b = drop_more bs 1 0 (omega arith) in
      let c = drop_more bs 2 0 (omega arith) in
      let d = drop_more bs 3 0 (omega arith) in
      let e = drop_more bs 4 0 (omega arith) in
      let f = drop_more bs 5 0 (omega arith) in
      let end = drop_all (length bs) bs (omega arith) in
      let all = append-nil (encode_codes (codes_at bs 0 (get_or bs 2 0))) in
      cc (r.entry_bytes, r.code_bytes, r.long, header.edition)

  table_back : Bytes bs → table_fault bs ≡ Ok tt → WellFormed (program_of bs) × (encode (program_of bs) ≡ bs)
  table_back bytes h =
      let threads = get_or bs 2 0 in
      let k = kind_of (get_or bs 1 0) in
      let a = passed_demand (leb 6 (length bs)) _ _ tt h in
      let b = passed (header_fault bs) _ tt a.1 in
      let c = passed_demand (leb (6 + 4 * threads) (length bs)) _ _ tt b.2 in
      let d = passed (entries_end k bs 0 (6 + 4 * threads) threads) _ tt c.1 in
      let e = passed_demand (eqb d.0 (length bs)) _ _ tt d.2 in
      let end : d.0 ≡ length bs = eqb-true _ _ e.0 in
      let header = header_back b.1 in
      let r = codes_back bs bytes 0 (6 + 4 * threads) (length bs) threads (d.1 ∙ ap Ok end) e.1
      (leb-true _ _ c.0) (omega arith) in (
        record {
          threads = rw r.long header.threads;
          words = header.words;
          registers = header.registers;
          rounds = header.rounds;
          code = r.in_range;
        },
        encoded_bytes (leb-true _ _ a.0) header r,
      )

pub read_is_encoded_back : ReadIsEncodedBack
read_is_encoded_back bs p bytes h =
    let a = passed (table_fault bs) (λ _. Ok (program_of bs)) p h in
    let same : program_of bs ≡ p = cc a.2 in
    subst (λ x. WellFormed x × (encode x ≡ bs)) same (table_back bs bytes a.1)
