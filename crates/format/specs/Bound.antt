-- 01, 'Numbers that bound the work'.
use Rattle.std.specs.Prelude.{ℕ}

-- bytes of a message slice, at most
abbrev pub message_bound : ℕ
message_bound = 1048576

-- rows, at most
abbrev pub row_bound : ℕ
row_bound = 65536

-- values on the stack, at most
abbrev pub stack_bound : ℕ
stack_bound = 4096

-- marks (01's noted depths), at most
abbrev pub mark_bound : ℕ
mark_bound = 256

-- words of the register table, at least
abbrev pub register_words : ℕ
register_words = 256
