-- The walk on its way, in the memory that is lent to it.
use Rattle.std.specs.Prelude.{ℕ, ◌≡◌, List, Option}
use Rattle.table.specs.Words.{last_first}
use Rattle.format.specs.declared.Row.{Row}
use Rattle.leaves.specs.declared.output.Output.{Output}
use Rattle.text.specs.declared.walk.Walk.{Walk}
use Rattle.text.specs.Walk.{coming_next, ReadyNext, Partly}

-- the frames on its stack, the top first
abbrev pub frames : Walk → List ℕ
frames w = last_first w.stack.now w.depth

-- the table and the memory that are lent stay the same
abbrev pub Same : Walk → Output → Walk → Output → Type 0
Same w o w' o' = record {
  table : w'.table ≡ w.table;
  stack : w'.stack.ghost_name ≡ w.stack.ghost_name;
  output : o'.bytes.ghost_name ≡ o.bytes.ghost_name;
}

-- from w, where this text is to come, the walk has gone on to w' in the same memory. Part of the text is stored; the rest is that of a row, if one comes next,
-- and of the frames
pub record GoneOn (w : Walk) (o : Output) (text : List ℕ) (w' : Walk) (o' : Output) (next : Option Row) : Type 0 where
  pub same : Same w o w' o'
  pub ready : ReadyNext w.table next (frames w')
  pub part : Partly o.bytes.now o.at text o'.bytes.now o'.at (coming_next w.table next (frames w'))
