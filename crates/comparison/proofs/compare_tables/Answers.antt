-- `comparison::compare_tables` meets its contract: 16, or what the classes of the roots tell.
use mathlib.Core.Path.{sym, ◌∙◌}
use Rattle.comparison.specs.Classes.{side}
use Rattle.comparison.proofs.Answered as laws
use Rattle.comparison.proofs.Searches.{sound-side, root-among}
use Rattle.comparison.proofs.compare_tables.Goals as goal

pub returns-then-not-sound_table : goal.returns-then-not-sound_table
returns-then-not-sound_table c =
    let p = c.requires in
    laws.unsound-first _ _ _ _ _ _ _ _ _ p.0 p.1 p.2 (sym c.sound_table.ensures ∙ c.if-not-sound_table.true)

pub returns-then-not-sound_table-2 : goal.returns-then-not-sound_table-2
returns-then-not-sound_table-2 c =
    let p = c.requires in
    laws.unsound-second _ _ _ _ _ _ _ _ _ p.0 p.1 p.2 (sym c.sound_table.ensures ∙ c.if-not-sound_table.false) (sym c.sound_table-2.ensures ∙ c.if-not-sound_table-2.true)

pub invariant_of-first : goal.invariant_of-first
invariant_of-first c =
    record { sound = sound-side (side c.args.a.message.now c.args.a.rows.now c.args.a.used) _ (sym c.sound_table.ensures ∙ c.if-not-sound_table.false) c.requires.0 }

pub invariant_of-second : goal.invariant_of-second
invariant_of-second c =
    record { sound = sound-side (side c.args.b.message.now c.args.b.rows.now c.args.b.used) _ (sym c.sound_table-2.ensures ∙ c.if-not-sound_table-2.false) c.requires.1 }

pub same_roots-same-requires-clause-among : goal.same_roots-same-requires-clause-among
same_roots-same-requires-clause-among c = (
  root-among (side c.args.a.message.now c.args.a.rows.now c.args.a.used) _ (sym c.sound_table.ensures ∙ c.if-not-sound_table.false),
  root-among (side c.args.b.message.now c.args.b.rows.now c.args.b.used) _ (sym c.sound_table-2.ensures ∙ c.if-not-sound_table-2.false),
)

pub returns : goal.returns
returns c =
    let p = c.requires in
    laws.compared _ _ _ _ _ _ _ _ _ p.0 p.1 p.2 (sym c.sound_table.ensures ∙ c.if-not-sound_table.false) (sym c.sound_table-2.ensures ∙ c.if-not-sound_table-2.false)
    _ c.same_roots-same.ensures
