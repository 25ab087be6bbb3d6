-- The registers of a translated table, by name and by index.
use Rattle.std.specs.Prelude.{ℕ, ◌+◌, ◌-◌, ◌*◌}

-- Source registers, the round now, the round in which the next store is drained, the view of a word, and for
-- each round and word whether a store waits for that round and with which value.
pub data Name : Type 0 where
  src : ℕ → Name
  now : Name
  drain : Name
  view : ℕ → Name
  mask : ℕ → ℕ → Name
  queue : ℕ → ℕ → Name

-- what lays the registers out: source registers, words, and the most rounds of any thread
pub record Layout : Type 0 where
  pub registers : ℕ
  pub words : ℕ
  pub rounds : ℕ

abbrev pub index : Layout → Name → ℕ
index l (src r) = r
index l now = l.registers
index l drain = l.registers + 1
index l (view x) = l.registers + 2 + x
index l (mask j x) = l.registers + 2 + l.words + (j - 2) * l.words + x
index l (queue j x) = l.registers + 2 + l.words + l.rounds * l.words + (j - 2) * l.words + x

abbrev pub register_count : Layout → ℕ
register_count l = l.registers + 2 + 2 * (l.rounds * l.words)
