-- The machine at rows as its tables hold it, and what comes of an item, seen in them.
use Rattle.std.specs.Borrow.{GName}
use Rattle.std.specs.Prelude.{ℕ, suc, ◌+◌, ◌*◌, ◌-◌, ◌≤◌, ◌<◌, min, ◌≡◌, cond, List, [], ◌∷◌, ◌++◌, length, get_or, take, drop, eqb, Result, Ok, Err}
use Rattle.std.proofs.Math.Option.{Option, none, some}
use Rattle.std.specs.declared.ops.ControlFlow.{ControlFlow}
use Rattle.std.specs.declared.ops.ControlFlow.TheVariants.{Continue, Break}
use Rattle.format.specs.declared.Depth.{Depth}
use Rattle.format.specs.declared.Offset.{Offset}
use Rattle.format.specs.declared.Row.{Row as RowNumber}
use Rattle.format.specs.Bound.{stack_bound, mark_bound, register_words}
use Rattle.format.specs.Lex.{Item}
use Rattle.format.specs.Number.{number_of}
use Rattle.format.specs.declared.refusal.Refused.{Refused}
use Rattle.format.specs.Machine.{Machine, Step, refuse, go, finish, bounded, step}
use Rattle.format.specs.Rows.{Row, row_words, row_values, rows_of, row_room, span_row}
use Rattle.format.specs.Answer.{Tables, tables, limits_of, rows_in}
use Rattle.table.specs.Words.{last_first}
use Rattle.machine.specs.declared.start.Start.{Start}
use Rattle.machine.specs.declared.state.Machine.{Machine as Lent}

-- a register's word: 0 for empty, row + 1 otherwise
unfoldable pub register_in : List ℕ → ℕ → Option ℕ
register_in words x = cond (eqb (get_or words x 0) 0) none (some (get_or words x 0 - 1))

-- the place of an item, the row that is made next, the stack's depth, and how many marks are noted
pub record State : Type 0 where
  pub at : Offset
  pub next : RowNumber
  pub depth : Depth
  pub marks : ℕ

-- the machine that they hold
unfoldable pub machine_of : Tables → State → Machine row_values
machine_of t s = record {
  stack = last_first t.stack s.depth.0;
  marks = last_first t.marks s.marks;
  registers = register_in t.registers;
  memory = rows_of s.next.0 t.rows;
}

-- what holds before each item: no table over its room, and on the stack rows that are made
pub record Ready (t : Tables) (s : State) : Type 0 where
  pub used : s.next.0 ≤ row_room t.rows
  pub depth : s.depth.0 ≤ min (length t.stack) stack_bound
  pub noted : s.marks ≤ min (length t.marks) mark_bound
  pub registers : register_words ≤ length t.registers
  pub values : (i : ℕ) → i < s.depth.0 → get_or t.stack i 0 < s.next.0

-- the words of the tables past so many rows, values and marks
abbrev pub past : Tables → ℕ → ℕ → ℕ → Tables
past t used depth noted = tables (drop (used * row_words) t.rows) (drop depth t.stack) (drop noted t.marks) []

-- what comes of an item, with all that the tables hold then: it goes on (place, rows used, stack, marks, registers, the row table's words as far as rows are
-- made, and what lies past all of these), ends (root, rows used), or stops (number, place)
pub data Turn : Type 0 where
  goes : ℕ → ℕ → List ℕ → List ℕ → (ℕ → Option ℕ) → List ℕ → Tables → Turn
  ends : ℕ → ℕ → Tables → Turn
  stops : ℕ → ℕ → Tables → Turn

-- as the tables hold it where the machine goes on from a state, and where an item is refused
unfoldable pub going : State → Tables → Turn
going s t = goes s.at.0 s.next.0 (last_first t.stack s.depth.0) (last_first t.marks s.marks) (register_in t.registers) (rows_in t.rows (rows_of s.next.0 t.rows)) (past t s.next.0 s.depth.0 s.marks)

abbrev pub refusing : Refused → Tables → Turn
refusing r t = stops (number_of r.refusal) r.place.0 t

-- as the machine's step gives it, with the rows in the words of the table; nothing past them changes, nor anything where the item stops or ends
unfoldable pub after : Tables → State → Step row_values → Turn
after t s (refuse n p) = stops n p t
after t s (go k w m) = goes (suc s.at.0 + k) (s.next.0 + w) m.stack m.marks m.registers (rows_in t.rows m.memory) (past t (s.next.0 + w) (length m.stack) (length m.marks))
after t s (finish v) = ends v s.next.0 t

-- a step under the limits of the tables
unfoldable pub limited : Tables → State → Step row_values → Turn
limited t s x = after t s (bounded row_values (limits_of t) s.at.0 s.next.0 x)

-- an item before the bytes r, under those limits
unfoldable pub taken : Tables → State → List ℕ → Item → Turn
taken t s r item = limited t s (step row_values s.at.0 r (machine_of t s) item)

-- one row more, and its number over the values st
unfoldable pub with_row : Row → List ℕ → Machine row_values → Machine row_values
with_row x st m = record { stack = length m.memory ∷ st; marks = m.marks; registers = m.registers; memory = m.memory ++ (x ∷ []) }

-- one row more over the values below a depth, by an item of k bytes after its first
unfoldable pub made : Tables → State → ℕ → ℕ → Row → Turn
made t s below k x = limited t s (go k 1 (with_row x (last_first t.stack below) (machine_of t s)))

-- what the lent tables hold, and where the machine stands in them before an item at a place
abbrev pub held : Lent → Tables
held m = tables m.rows.now m.stack.now m.marks.now m.registers.now

abbrev pub stands : Lent → ℕ → State
stands m at = record { at = record { 0 = at }; next = m.next; depth = m.depth; marks = m.noted }

-- the bytes after an item's first
abbrev pub rest_of : Start → List ℕ
rest_of s = drop (s.at.0 + 1) s.message.now

-- whose memory each table is, and how many words of it
pub record Lender : Type 0 where
  pub rows : GName × ℕ
  pub stack : GName × ℕ
  pub marks : GName × ℕ
  pub registers : GName × ℕ

abbrev pub lender : Lent → Lender
lender m = record {
  rows = (m.rows.ghost_name, length m.rows.now);
  stack = (m.stack.ghost_name, length m.stack.now);
  marks = (m.marks.ghost_name, length m.marks.now);
  registers = (m.registers.ghost_name, length m.registers.now);
}

-- where the machine stands, told where it does not go on: a turn that goes on tells it already
unfoldable pub still : Turn → State → Option State
still (goes _ _ _ _ _ _ _) s = none
still (ends _ _ _) s = some s
still (stops _ _ _) s = some s

-- what comes of an item, with whose memory the machine's tables are and where it stands
abbrev pub seen : Turn → Lent → Turn × Lender × Option State
seen x m = (x, lender m, still x (stands m 0))

-- the same of the machine that an item leaves, as the item answers
unfoldable pub turned : Result (ControlFlow RowNumber Offset) Refused → Lent → Turn × Lender × Option State
turned (Ok (Continue end)) m = seen (going (stands m end.0) (held m)) m
turned (Ok (Break root)) m = seen (ends root.0 m.next.0 (held m)) m
turned (Err r) m = seen (refusing r (held m)) m

-- and of the machine that an item begins with, by the definitions: of a step at a place, of an item before the bytes r, and of one that makes one row more in the
-- place of so many values
abbrev pub stepped : Lent → ℕ → Step row_values → Turn × Lender × Option State
stepped m at x = seen (limited (held m) (stands m at) x) m

abbrev pub takes : Lent → ℕ → List ℕ → Item → Turn × Lender × Option State
takes m at r item = seen (taken (held m) (stands m at) r item) m

abbrev pub makes : Lent → ℕ → ℕ → ℕ → Row → Turn × Lender × Option State
makes m at popped k x = seen (made (held m) (stands m at) (m.depth.0 - popped) k x) m

-- items of quoted text that push one row of a kind: atoms and strings
abbrev pub Spans : ℕ → (ℕ → Item) → Type 0
Spans kind item = (at : ℕ) (r : List ℕ) (m : Machine row_values) (k : ℕ)
    → step row_values at r m (item k) ≡ go (suc k) 1 (with_row (span_row kind (suc at) (take k r)) m.stack m)
