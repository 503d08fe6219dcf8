-- A stack of words in lent memory.
use Rattle.std.specs.Prelude.{ℕ, List, length}
use Rattle.table.specs.Words.{last_first}
use Rattle.text.specs.declared.stack.Stack.{Stack}

-- the words on it, the top first
abbrev pub on_stack : Stack → List ℕ
on_stack s = last_first s.words.now s.depth

-- how many it has room for
abbrev pub room_on : Stack → ℕ
room_on s = length s.words.now
