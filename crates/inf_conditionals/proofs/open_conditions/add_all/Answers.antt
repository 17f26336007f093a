use Rattle.std.proofs.Common.{◌≡◌, ◌∷◌, ◌++◌, [], Err, List, Ok, OnErr, OnOk, Result, ap, append_assoc, arith, false, is_err, length, sym}
use Rattle.std.proofs.Common.{take, true, ◌∙◌}
use Rattle.std.proofs.lemmas.List.{length-append, take-append-le}
use Rattle.inf_unit.specs.{Spelled.spelled, Tokens.SourceToken}
use Rattle.inf_conditionals.proofs.open_conditions.add_all.Goals as goal

on_ok : {X E : Type 0} (r : Result X E) (P : Type 0) → is_err r ≡ false → OnOk r P → P
on_ok (Ok x) P n h = h
on_ok (Err e) P n h = cc

on_err : {X E : Type 0} (r : Result X E) (P : Type 0) → is_err r ≡ true → OnErr r P → P
on_err (Ok x) P n h = cc
on_err (Err e) P n h = h

pub loop-token-preserved : goal.loop-token-preserved
loop-token-preserved c =
    let now = c.loop-token.tokens in let t = spelled c.in-Some.token in let n = length c.args.tokens.now in
    let new : c.add.new.self ≡ now ++ t ∷ [] =
    on_ok c.add.result (c.add.new.self ≡ now ++ t ∷ []) (sym c.is_err.ensures.value ∙ c.if-is_err.false) c.add.ensures.added in
    record {
      all = ap (λ (l : List SourceToken). l ++ c.next.new.self) new ∙ append_assoc now (t ∷ []) c.next.new.self
          ∙ ap (λ (l : List SourceToken). now ++ l) (sym c.in-Some.ensures.some) ∙ c.loop-token.invariant.all;
      long = omega (arith, c.loop-token.invariant.long, ap (λ (l : List SourceToken). length l) new, length-append now (t ∷ []));
      front = ap (λ (l : List SourceToken). take n l) new ∙ take-append-le n now (t ∷ []) c.loop-token.invariant.long
          ∙ c.loop-token.invariant.front;
    }

pub returns-then-is_err-clause-err : goal.returns-then-is_err-clause-err
returns-then-is_err-clause-err c = c.truncate.ensures ∙ ap (λ i. take i c.add.new.self) c.len-before.ensures
    ∙ ap (λ (l : List SourceToken). take (length c.args.tokens.now) l)
    (on_err c.add.result (c.add.new.self ≡ c.loop-token.tokens) (sym c.is_err.ensures.value ∙ c.if-is_err.true) c.add.ensures.err)
    ∙ c.loop-token.invariant.front
