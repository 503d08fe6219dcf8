-- 01, 'The machine', last paragraph: the machine at terms, and the term of a message by its bytes alone.
use Rattle.std.specs.Prelude.{ℕ, Bool, true, false, List, ℤ}
use Rattle.std.proofs.Math.Option.{Option, none, some}
use Rattle.format.specs.Term as T
use Rattle.format.specs.Term.{Term, Terms, ◌then◌, terms_from}
use Rattle.format.specs.Machine as M
use Rattle.format.specs.Machine.{Shape, Values, Outcome, refused, accepted, run_free}

-- what serves as a count: a tagged integer no longer does
unfoldable pub term_integer : Term → Option ℤ
term_integer (T.int z) = some z
term_integer (T.atom b) = none
term_integer (T.string b) = none
term_integer (T.binary b) = none
term_integer (T.list ts) = none
term_integer (T.tuple ts) = none
term_integer (T.tag b t) = none

-- what serves as a list: a tagged list no longer does
unfoldable pub term_is_list : Term → Bool
term_is_list (T.int z) = false
term_is_list (T.atom b) = false
term_is_list (T.string b) = false
term_is_list (T.binary b) = false
term_is_list (T.list ts) = true
term_is_list (T.tuple ts) = false
term_is_list (T.tag b t) = false

-- the items of a list; nobody asks for those of anything else
unfoldable pub items_of : Term → Terms
items_of (T.int z) = T.none
items_of (T.atom b) = T.none
items_of (T.string b) = T.none
items_of (T.binary b) = T.none
items_of (T.list ts) = ts
items_of (T.tuple ts) = T.none
items_of (T.tag b t) = T.none

-- the term that an item makes
unfoldable pub term_of : Shape Term → Term
term_of (M.integer z) = T.int z
term_of (M.atom start b) = T.atom b
term_of (M.string start b) = T.string b
term_of (M.binary start b) = T.binary b
term_of M.nil = T.list T.none
term_of (M.cons v l) = T.list (v then items_of l)
term_of (M.tuple vs) = T.tuple (terms_from vs)
term_of (M.tag start b v) = T.tag b v

-- terms as values: a push copies the whole content, and nothing else is kept
abbrev pub term_values : Values
term_values = record {
  Memory = Unit {0};
  Value = Term;
  empty = tt;
  make = λ at shape s. (tt, term_of shape);
  integer_in = λ s v. term_integer v;
  is_list = λ s v. term_is_list v;
}

-- the value of an accepted message
unfoldable pub accepted_value : {A : Type 0} → Outcome A → Option A
accepted_value (refused n p) = none
accepted_value (accepted k v) = some v

-- the term of a message, where it has one
unfoldable pub message_term : List ℕ → Option Term
message_term message = accepted_value (run_free term_values message)
