-- A new name is used behind the others.
use Rattle.std.proofs.{lemmas.List.length-map, lemmas.Result.MatchResult-from_err}
use Rattle.std.proofs.Common.{◌≡◌, ◌+◌, cond, List, sym, ◌∙◌, ap, false, length, map, Some}
use Rattle.std.specs.Prelude.{⊤, is_some, nat_le}
use Rattle.inf_names.specs.{Entries.as_named, SystemNames.system_meaning, declared.symbols.Found.Found}
use Rattle.inf_names.specs.{declared.symbols.ReferFault.ReferFault}
use Rattle.inf_names.specs.Symbols.{Named, Table, IsUsed, declarations, folded, found_in, is_full, number_among, number_of, put}
use Rattle.inf_names.specs.Symbols.{standing_of, with_used}
use Rattle.inf_names.proofs.Putting.{declarations-used, fits_behind, found_at_number, index_of-absent, length-put, new_number, new_used}
use Rattle.inf_names.proofs.Putting.{not_numbered, put-insert, unknown_where}
use Rattle.inf_names.proofs.symbols.Symbols.find_and_refer.Goals as goal

pub invariant_of-self-2 : goal.invariant_of-self-2
invariant_of-self-2 g c =
    let inside = c.self.inside in let es = inside.entries.entries in let names = map as_named es in
    let key = folded c.args.name.now in let known = standing_of key names in
    let put_in = IsUsed c.args.name.now c.args.place in
    let absent : is_some known ≡ false = ap (λ (t : Table _). is_some (standing_of key t.names)) c.self.view_is
    ∙ not_numbered key c.args.self.now.names (c.in_default.ensures ∙ ap (λ k. number_among k c.args.self.now.names) c.of-key.ensures) in
    let new = c.insert.new.self.entries in
    let is : map as_named new ≡ put key put_in names = ap (map as_named) c.in_ok-insert.ensures.entries ∙ put-insert _ _ es
    ∙ ap (λ k. put k (IsUsed c.spelled.result.items c.args.place) names) c.of-key.ensures
    ∙ ap (λ s. put key (IsUsed s c.args.place) names) c.spelled.ensures in
    let count : length new ≡ length es + cond (is_some known) 0 1 =
    sym (length-map new as_named) ∙ ap length is ∙ length-put key put_in names
    ∙ ap (λ n. n + cond (is_some known) 0 1) (length-map es as_named) in
    let room : is_some known ≡ false → nat_le inside.limit (length es) ≡ false =
    λ absent. ap (nat_le inside.limit) (sym (length-map es as_named)) ∙ ap (λ n. nat_le n (length names)) inside.is_most
    ∙ ap (is_full g.B.Bounds.most) c.self.view_is ∙ sym c.is_full.ensures
    ∙ c.if-is_full.false in (
      c.self.invariant.0 ∙ sym (ap declarations is ∙ declarations-used key c.args.name.now c.args.place names absent),
      fits_behind inside.limit (length es) (length new) (is_some known) c.self.invariant.1 count room,
    )

pub returns-clause-ok : goal.returns-clause-ok
returns-clause-ok g c =
    let inside = c.self.inside in let es = inside.entries.entries in let names = map as_named es in
    let key = folded c.args.name.now in let system = system_meaning inside.is_debugging c.args.name.now in
    let t : Table _ = record { names = names; declared = inside.declared; is_debugging = inside.is_debugging } in
    let absent : is_some (standing_of key names) ≡ false = ap (λ (t : Table _). is_some (standing_of key t.names)) c.self.view_is
    ∙ not_numbered key c.args.self.now.names (c.in_default.ensures ∙ ap (λ k. number_among k c.args.self.now.names) c.of-key.ensures) in
    let free : is_some system ≡ false = ap is_some (sym c.in_default-system_meaning.ensures) in
    let is : map as_named c.insert.new.self.entries ≡ put key (IsUsed c.args.name.now c.args.place) names =
    ap (map as_named) c.in_ok-insert.ensures.entries ∙ put-insert _ _ es
    ∙ ap (λ k. put k (IsUsed c.spelled.result.items c.args.place) names) c.of-key.ensures
    ∙ ap (λ s. put key (IsUsed s c.args.place) names) c.spelled.ensures in
    ap (λ (names : List (Named _)). record { names = names; declared = inside.declared; is_debugging = inside.is_debugging }) is
    ∙ sym (new_used c.args.name.now c.args.place t system (standing_of key names) free absent)
    ∙ ap (with_used c.args.name.now c.args.place) c.self.view_is

pub returns-in_err-insert-clause-memory : goal.returns-in_err-insert-clause-memory
returns-in_err-insert-clause-memory g c =
    let t = c.args.self.now in let key = folded c.args.name.now in
    let absent : is_some (standing_of key t.names) ≡ false =
    not_numbered key t.names (c.in_default.ensures ∙ ap (λ k. number_among k t.names) c.of-key.ensures) in
    let free : is_some (system_meaning t.is_debugging c.args.name.now) ≡ false =
    ap (λ (t : Table _). is_some (system_meaning t.is_debugging c.args.name.now)) (sym c.self.view_is)
    ∙ ap is_some (sym c.in_default-system_meaning.ensures) in
    let unknown : found_in c.args.name.now t ≡ Found.Unknown =
    unknown_where (system_meaning t.is_debugging c.args.name.now) (standing_of key t.names) free absent in
    MatchResult-from_err c.from_residual.result (λ _. ⊤) (λ f. f ≡ ReferFault.Memory → found_in c.args.name.now t ≡ Found.Unknown)
    c.from_residual.ensures.0 (λ f memory. unknown)

pub returns-clause-number : goal.returns-clause-number
returns-clause-number g c =
    let inside = c.self.inside in let es = inside.entries.entries in let names = map as_named es in
    let key = folded c.args.name.now in let system = system_meaning inside.is_debugging c.args.name.now in
    let t : Table _ = record { names = names; declared = inside.declared; is_debugging = inside.is_debugging } in
    let absent : is_some (standing_of key names) ≡ false = ap (λ (t : Table _). is_some (standing_of key t.names)) c.self.view_is
    ∙ not_numbered key c.args.self.now.names (c.in_default.ensures ∙ ap (λ k. number_among k c.args.self.now.names) c.of-key.ensures) in
    let free : is_some system ≡ false = ap is_some (sym c.in_default-system_meaning.ensures) in
    ap Some (c.len-number.ensures.count ∙ ap (λ (t : Table _). length t.names) (sym c.self.view_is) ∙ sym
    (index_of-absent key names absent)) ∙ sym (new_number c.args.name.now c.args.place t system (standing_of key names) free absent)
    ∙ ap (number_of c.args.name.now) c.self.view_is

pub returns-in-Some-clause-found : goal.returns-in-Some-clause-found
returns-in-Some-clause-found g c =
    let t = c.args.self.now in
    c.found_at.ensures ∙ found_at_number (system_meaning t.is_debugging c.args.name.now) (folded c.args.name.now) t.names c.in-Some.number
    (sym c.in-Some.is ∙ c.number.ensures ∙ ap (λ k. number_among k t.names) c.of-key.ensures)
