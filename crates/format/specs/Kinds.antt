-- 01, 'Row table': the kinds of the code, and their numbers.
use Rattle.std.specs.Prelude.{ℕ, ◌≡◌, ◌<◌, ◌⊎◌, Result, MatchResult}
use Rattle.format.specs.Rows.{integer_kind, atom_kind, string_kind, binary_kind, nil_kind, cons_kind, end_kind, field_kind, tag_kind}
use Rattle.format.specs.declared.kind.Kind.{Kind}
use Rattle.format.specs.declared.kind.Kind.TheVariants.{Integer, Atom, String, Binary, Nil, Cons, End, Field, Tag}
use Rattle.format.specs.declared.kind.UnknownKind.{UnknownKind}

abbrev pub kind_number : Kind → ℕ
kind_number Integer = integer_kind
kind_number Atom = atom_kind
kind_number String = string_kind
kind_number Binary = binary_kind
kind_number Nil = nil_kind
kind_number Cons = cons_kind
kind_number End = end_kind
kind_number Field = field_kind
kind_number Tag = tag_kind

-- the kind that a number is, or none where no kind has it
abbrev pub NamesKind : ℕ → Result Kind UnknownKind → Type 0
NamesKind number r = MatchResult r (λ kind. kind_number kind ≡ number) (λ _. (number ≡ 0) ⊎ (tag_kind < number))
