-- Atoms, strings, tags and comments, by what the reader of quoted text answers.
use Prim.Native.Nat.{ℕ, suc, ◌+◌, ◌-◌, ◌≤◌, ◌<◌}
use Prim.Native.Char.{code}
use mathlib.Core.Path.{◌≡◌, refl, ap, sym, subst}
use mathlib.Core.List.{List}
use mathlib.Core.Bool.{false}
use native.Mathlib.Numerals.{add-one}
use native.Mathlib.Omega.{arith}
use lib.ListN.{length, get_or, take, drop, length-drop}
use lib.Seq.{length-take-le}
use denote.Enum.Declared.{tag_of}
use Rattle.std.specs.Prelude.{Result, Ok, Err}
use Rattle.format.specs.Kinds.{kind_number}
use Rattle.format.specs.Lex as L
use Rattle.format.specs.Lex.{Item, Scan, scan, quoted, quoted_item, atom_item, string_item, tag_item, comment_item}
use Rattle.format.specs.Machine as M
use Rattle.format.specs.Machine.{base, step}
use Rattle.format.specs.Rows.{row, row_values, make_rows, add, atom_kind, string_kind, tag_kind, span_row, tag_row}
use Rattle.format.specs.Answer.{Tables, tables}
use Rattle.format.specs.contracts.kind.Kind.{the_type}
use Rattle.format.specs.declared.Offset.{Offset}
use Rattle.format.specs.declared.kind.Kind.{Kind}
use Rattle.format.specs.declared.kind.Kind.TheVariants.{Integer, Atom, String, Binary, Nil, Cons, End, Field, Tag}
use Rattle.format.specs.declared.refusal.Refused.{Refused}
use Rattle.format.proofs.Items.{ItemOk, quoted-ok}
use Rattle.table.specs.Words.{last_first}
use Rattle.lexer.specs.Quoted.{escaped_after, scanned, quoted_from}
use Rattle.lexer.specs.declared.quoted.Quoted.{Quoted}
use Rattle.lexer.specs.declared.quoted.Unclosed.{Unclosed}
use Rattle.machine.specs.Held.{State}
use Rattle.machine.specs.Held.{Ready, Spans, stops, machine_of, going, refusing, limited, taken, with_row, made}
use Rattle.literals.specs.Readers.{unclosed_as, closed_as}
use Rattle.machine.proofs.Limits.{refused-step}
use Rattle.machine.proofs.Pops.{pop-few, pop-top}
use Rattle.machine.proofs.Passes.{passes}

-- a kind as a number is its own
pub as_number : (kind : Kind) → tag_of the_type kind + 1 ≡ kind_number kind
as_number Integer = refl
as_number Atom = refl
as_number String = refl
as_number Binary = refl
as_number Nil = refl
as_number Cons = refl
as_number End = refl
as_number Field = refl
as_number Tag = refl

-- atoms and strings push one row of their kind
pub atoms : Spans atom_kind atom_item
unfolding step M.fresh make_rows add with_row
atoms at r m k = refl

pub strings : Spans string_kind string_item
unfolding step M.fresh make_rows add with_row
strings at r m k = refl

module _ (quote at : ℕ) (r : List ℕ) where
  -- what the reader answers tells what the look for the quote found
  pub closed : (n : ℕ) (end : Offset) → quoted_from quote false (at + 1) r ≡ Ok (record { count = n; end = end }) → (scan quote false 0 r ≡ L.closed_at n) × (end.0 ≡ suc at + suc n)
  unfolding quoted_from scanned
  closed n end e = by (scan quote false 0 r) e
    where
      by : (x : Scan) → scanned (at + 1) (escaped_after false r) x ≡ Ok (record { count = n; end = end }) → (x ≡ L.closed_at n) × (end.0 ≡ suc at + suc n)
      by L.ended f = cc
      by (L.stray_at k) f = cc
      by (L.closed_at k) f =
          let same : ◌≡◌ {A = Quoted} (record { count = k; end = record { 0 = suc (at + 1 + k) } }) (record { count = n; end = end }) = cc in
          (ap (λ (x : Quoted). L.closed_at x.count) same, omega (arith, ap (λ (x : Quoted). x.count) same, ap (λ (x : Quoted). x.end.0) same))

  -- the quote lies in the slice
  inside : (n : ℕ) → scan quote false 0 r ≡ L.closed_at n → n < length r
  unfolding quoted quoted_item
  inside n e = subst (ItemOk r) (ap (quoted_item comment_item) e) (quoted-ok quote comment_item r (λ k m. m.inside))

  closed-inside : (n : ℕ) (end : Offset) → quoted_from quote false (at + 1) r ≡ Ok (record { count = n; end = end }) → n < length r
  closed-inside n end e = inside n (closed n end e).0

-- closed text is shorter than the slice
pub shorter : (quote at : ℕ) (message : List ℕ) (n : ℕ) (end : Offset) → quoted_from quote false (at + 1) (drop (at + 1) message) ≡ Ok (record { count = n; end = end }) → n < length message
shorter quote at message n end e = omega (arith, closed-inside quote at (drop (at + 1) message) n end e, length-drop (at + 1) message)

-- what is no refusal is what the reader answers
pub was-closed : (x : Result Quoted Unclosed) (ended : Offset) (y : Quoted) → closed_as x ended ≡ Ok y → x ≡ Ok y
was-closed (Ok z) ended y e = let same : z ≡ y = cc in rw same refl
was-closed (Err why) ended y e = cc

-- the refusal of text that is not closed
module _ (quote : ℕ) (t : Tables) (s : State) (r : List ℕ) (item : ℕ → Item) (ended : Offset) (last : ended.0 ≡ suc s.at.0 + length r) where
  pub refused-text : (why : Unclosed) → quoted_from quote false (s.at.0 + 1) r ≡ Err why → refusing (unclosed_as why ended) t ≡ taken t s r (quoted quote item r)
  unfolding quoted_from scanned unclosed_as going taken quoted quoted_item step
  refused-text why e = by (scan quote false 0 r) why e
    where
      by : (x : Scan) (why : Unclosed) → scanned (s.at.0 + 1) (escaped_after false r) x ≡ Err why → refusing (unclosed_as why ended) t ≡ limited t s (step row_values s.at.0 r (machine_of t s) (quoted_item item x))
      by L.ended (Unclosed.Ended escaped) f = rw last (sym (refused-step t s 3 (suc s.at.0 + length r)))
      by L.ended (Unclosed.Stray p) f = cc
      by (L.stray_at k) (Unclosed.Stray p) f =
          let same : ◌≡◌ {A = Offset} (record { 0 = s.at.0 + 1 + k }) p = cc in
          let place : s.at.0 + 1 + k ≡ s.at.0 + suc k = omega arith in
          rw (← same, place) (sym (refused-step t s 4 (s.at.0 + suc k)))
      by (L.stray_at k) (Unclosed.Ended escaped) f = cc
      by (L.closed_at k) why f = cc

  pub unclosed : (e : Refused) → closed_as (quoted_from quote false (s.at.0 + 1) r) ended ≡ Err e → refusing e t ≡ taken t s r (quoted quote item r)
  unclosed e f = by (quoted_from quote false (s.at.0 + 1) r) refl f
    where
      by : (x : Result Quoted Unclosed) → quoted_from quote false (s.at.0 + 1) r ≡ x → closed_as x ended ≡ Err e → refusing e t ≡ taken t s r (quoted quote item r)
      by (Ok y) g f = cc
      by (Err why) g f =
          let same : unclosed_as why ended ≡ e = cc in
          rw (← same) (refused-text why g)

module _ (rows stack marks registers : List ℕ) (s : State) (r : List ℕ) (n : ℕ) (end : Offset) where
  -- an atom or a string
  pub span-made : (quote kind : ℕ) (item : ℕ → Item) → Spans kind item → quoted_from quote false (s.at.0 + 1) r ≡ Ok (record { count = n; end = end })
      → made (tables rows stack marks registers) s s.depth.0 (suc n) (row kind (s.at.0 + 1) n 0) ≡ taken (tables rows stack marks registers) s r (quoted quote item r)
  unfolding taken made quoted quoted_item machine_of span_row
  span-made quote kind item f e =
      let c = closed quote s.at.0 r n end e in
      let count : length (take n r) ≡ n = length-take-le n r (omega (arith, closed-inside quote s.at.0 r n end e)) in
      rw (c.0, f s.at.0 r (machine_of (tables rows stack marks registers) s) n, count, add-one s.at.0) refl

  pub comment_passes : Ready (tables rows stack marks registers) s → quoted_from (code "%") false (s.at.0 + 1) r ≡ Ok (record { count = n; end = end })
      → going (record { at = end; next = s.next; depth = s.depth; marks = s.marks }) (tables rows stack marks registers) ≡ taken (tables rows stack marks registers) s r (quoted (code "%") comment_item r)
  unfolding taken quoted quoted_item step
  comment_passes h e =
      let c = closed (code "%") s.at.0 r n end e in
      rw c.0 (passes (tables rows stack marks registers) s h (suc n) end.0 c.1)

  module _ (e : quoted_from (code "`") false (s.at.0 + 1) r ≡ Ok (record { count = n; end = end })) where
    pub tag-few : s.depth.0 ≤ base (last_first marks s.marks) → taken (tables rows stack marks registers) s r (quoted (code "`") tag_item r) ≡ stops 6 s.at.0 (tables rows stack marks registers)
    unfolding taken quoted quoted_item step machine_of
    tag-few h =
        rw ((closed (code "`") s.at.0 r n end e).0, pop-few s.at.0 (last_first marks s.marks) stack _ s.depth.0 h)
        (refused-step (tables rows stack marks registers) s 6 s.at.0)

    pub tag-made : base (last_first marks s.marks) < s.depth.0 → (v : ℕ) → v ≡ get_or stack (s.depth.0 - 1) 0
        → made (tables rows stack marks registers) s (s.depth.0 - 1) (suc n) (row tag_kind (s.at.0 + 1) n v) ≡ taken (tables rows stack marks registers) s r (quoted (code "`") tag_item r)
    unfolding taken made quoted quoted_item step machine_of M.fresh make_rows add with_row tag_row
    tag-made h v q =
        let count : length (take n r) ≡ n = length-take-le n r (omega (arith, closed-inside (code "`") s.at.0 r n end e)) in
        rw ((closed (code "`") s.at.0 r n end e).0, pop-top s.at.0 (last_first marks s.marks) stack _ s.depth.0 h, ← q, count, add-one s.at.0) refl
