-- An unknown name has the number of the next one.
use Rattle.std.proofs.Common.{◌≡◌, ◌∙◌, ℕ, List, Option, Some, None, ap, false, refl, sym}
use Rattle.std.specs.Prelude.{is_some}
use Rattle.inf_names.specs.{SystemNames.system_meaning, declared.meanings.Meaning.Meaning}
use Rattle.inf_names.specs.Symbols.{Standing, Table, folded, found_as, index_of, number_among, number_by, standing_of}
use Rattle.inf_names.proofs.Putting.{found_at_number, index_of-absent, not_numbered}
use Rattle.inf_names.proofs.symbols.Symbols.find.Goals as goal

pub returns-in-Some-clause-found : goal.returns-in-Some-clause-found
returns-in-Some-clause-found g c =
    let t = c.args.self.now in
    c.found_at.ensures ∙ found_at_number (system_meaning t.is_debugging c.args.name.now) (folded c.args.name.now) t.names c.in-Some.number
    (sym c.in-Some.is ∙ c.number.ensures ∙ ap (λ k. number_among k t.names) c.of-key.ensures)

next_number : {P : Type 0} (name : List ℕ) (t : Table P) (system : Option Meaning) (s : Option (Standing P)) → is_some system ≡ false →
    is_some s ≡ false → number_by (found_as system s) name t ≡ Some (index_of (folded name) t.names)
next_number name t None None free absent = refl
next_number name t (Some meaning) s free absent = cc
next_number name t None (Some s) free absent = cc

pub returns-in-None-clause-number : goal.returns-in-None-clause-number
returns-in-None-clause-number g c =
    let t = c.args.self.now in let key = folded c.args.name.now in
    let absent : is_some (standing_of key t.names) ≡ false =
    not_numbered key t.names (c.in_default.ensures ∙ ap (λ k. number_among k t.names) c.of-key.ensures) in
    let free : is_some (system_meaning t.is_debugging c.args.name.now) ≡ false =
    ap (λ (t : Table _). is_some (system_meaning t.is_debugging c.args.name.now)) (sym c.self.view_is)
    ∙ ap is_some (sym c.system_meaning.ensures ∙ c.in-None.is) in
    ap Some (c.len.ensures.count ∙ sym (index_of-absent key t.names absent))
    ∙ sym (next_number c.args.name.now t (system_meaning t.is_debugging c.args.name.now) (standing_of key t.names) free absent)
