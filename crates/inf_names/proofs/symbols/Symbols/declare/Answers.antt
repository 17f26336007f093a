-- A name is declared in its place or behind the others, and one more name is declared then.
use Rattle.std.proofs.{lemmas.List.length-map, lemmas.Result.MatchResult-from_err}
use Rattle.std.proofs.Common.{◌≡◌, ◌+◌, cond, List, sym, ◌∙◌, ap, arith, false, length, map, None, Some}
use Rattle.std.specs.Prelude.{⊤, is_some, nat_le}
use Rattle.inf_names.specs.{Entries.as_named, Symbols.IsDeclared, Symbols.Named, Symbols.Table, Symbols.declarations, Symbols.declare_fault}
use Rattle.inf_names.specs.{Symbols.folded, Symbols.found_in, Symbols.is_full, Symbols.put, Symbols.standing_of, Symbols.with_declared}
use Rattle.inf_names.specs.{SystemNames.system_meaning, declared.symbols.DeclareFault.DeclareFault, declared.symbols.Found.Found}
use Rattle.inf_settings.specs.declared.setting.Setting.{Setting}
use Rattle.inf_names.proofs.Putting.{declarations-declared, declarations-few, fits_behind, length-put, open_where_fit, put-insert}
use Rattle.inf_names.proofs.Putting.{absent_key, never_lacks, room_where_fit, unknown_where_fit}
use Rattle.inf_names.proofs.symbols.Symbols.declare.Goals as goal

pub overflow_add-self : goal.overflow_add-self
overflow_add-self g c =
    let inside = c.self.inside in
    omega (
      arith,
      declarations-few (map as_named inside.entries.entries),
      c.self.invariant.0,
      c.self.invariant.1,
      length-map inside.entries.entries as_named,
      c.self.ranges.1,
    )

pub invariant_of-self-2 : goal.invariant_of-self-2
invariant_of-self-2 g c =
    let inside = c.self.inside in let es = inside.entries.entries in let names = map as_named es in
    let key = folded c.args.name.now in let known = standing_of key names in
    let system = system_meaning inside.is_debugging c.args.name.now in
    let full = nat_le (g.B.Bounds.most Setting.Symbols) (length names) in
    let put_in = IsDeclared inside.declared c.args.meaning c.args.place in
    let fit : declare_fault g.B.Bounds.most c.args.name.now (record {
      names = names;
      declared = inside.declared;
      is_debugging = inside.is_debugging;
    }) ≡ None = ap (declare_fault g.B.Bounds.most c.args.name.now) c.self.view_is ∙ sym c.in_default.ensures in
    let new = c.insert.new.self.entries in
    let is : map as_named new ≡ put key put_in names =
    ap (map as_named) c.in_ok-insert.ensures.entries ∙ put-insert _ _ es ∙ ap (λ k. put k put_in names) c.of.ensures in
    let count : length new ≡ length es + cond (is_some known) 0 1 =
    sym (length-map new as_named) ∙ ap length is ∙ length-put key put_in names
    ∙ ap (λ n. n + cond (is_some known) 0 1) (length-map es as_named) in
    let room : is_some known ≡ false → nat_le inside.limit (length es) ≡ false =
    λ absent. ap (nat_le inside.limit) (sym (length-map es as_named)) ∙ ap (λ n. nat_le n (length names)) inside.is_most
    ∙ room_where_fit system known full fit absent in (
      ap (λ n. n + 1) c.self.invariant.0 ∙ omega arith ∙ sym
          (ap declarations is ∙ declarations-declared key inside.declared c.args.meaning c.args.place names
          (open_where_fit system known full fit)),
      fits_behind inside.limit (length es) (length new) (is_some known) c.self.invariant.1 count room,
    )

pub returns-clause-ok : goal.returns-clause-ok
returns-clause-ok g c =
    let inside = c.self.inside in let es = inside.entries.entries in
    let put_in = IsDeclared inside.declared c.args.meaning c.args.place in
    let is : map as_named c.insert.new.self.entries ≡ put (folded c.args.name.now) put_in (map as_named es) =
    ap (map as_named) c.in_ok-insert.ensures.entries ∙ put-insert _ _ es ∙ ap (λ k. put k put_in (map as_named es)) c.of.ensures in
    ap (λ (names : List (Named _)). record { names = names; declared = inside.declared + 1; is_debugging = inside.is_debugging }) is
    ∙ ap (with_declared c.args.name.now c.args.place c.args.meaning) c.self.view_is

pub returns-in-Some-clause-memory : goal.returns-in-Some-clause-memory
returns-in-Some-clause-memory g c = λ memory.
    let t = c.args.self.now in
    absurd (never_lacks (found_in c.args.name.now t) (is_full g.B.Bounds.most t) (ap Some (sym memory) ∙ c.in-Some.ensures))

pub returns-in_err-insert-clause-memory : goal.returns-in_err-insert-clause-memory
returns-in_err-insert-clause-memory g c =
    let t = c.args.self.now in let key = folded c.args.name.now in
    let gone : is_some (standing_of c.of.result.items (map as_named c.self.inside.entries.entries)) ≡ false =
    absent_key c.of.result.items c.self.inside.entries.entries c.in_err-insert.ensures.absent in
    let absent : is_some (standing_of key t.names) ≡ false = ap (λ (t : Table _). is_some (standing_of key t.names)) (sym c.self.view_is)
    ∙ ap (λ k. is_some (standing_of k (map as_named c.self.inside.entries.entries))) (sym c.of.ensures) ∙ gone in
    let unknown : found_in c.args.name.now t ≡ Found.Unknown =
    unknown_where_fit (system_meaning t.is_debugging c.args.name.now) (standing_of key t.names) (is_full g.B.Bounds.most t)
    (sym c.in_default.ensures) absent in
    MatchResult-from_err c.from_residual.result (λ _. ⊤) (λ f. f ≡ DeclareFault.Memory → found_in c.args.name.now t ≡ Found.Unknown)
    c.from_residual.ensures.0 (λ f memory. unknown)
