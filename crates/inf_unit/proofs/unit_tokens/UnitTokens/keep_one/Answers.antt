use Rattle.std.proofs.Common.{◌≡◌, Some, List, [], ◌∷◌, ◌++◌, drop, length, slice_get, take, ap, arith, sym, ◌∙◌}
use Rattle.std.proofs.lemmas.Option.{slice_get_within}
use Rattle.inf_unit.specs.{Kept.end_of_all, Tokens.SourceToken, declared.kept.Kept.Kept}
use Rattle.inf_unit.proofs.KeptTokens.{IsAlone, alone_kept, alone_tokens, kept_at, none_alone}
use Rattle.inf_unit.proofs.unit_tokens.UnitTokens.keep_one.Goals as goal

pub start_of-start-requires : goal.start_of-start-requires
start_of-start-requires c = omega (
  arith,
  slice_get_within c.as_slice.result.now c.args.at c.in-Some.token.now c.in-Some.ensures,
  ap (λ (l : List Kept). length l) c.as_slice.ensures.value,
  ap (λ (l : List Kept). length l) c.as_slice-in-Some.ensures.value,
)

pub overflow_sub-end : goal.overflow_sub-end
overflow_sub-end c =
    let ks = c.self.inside.kept.items in
    let is : slice_get ks c.args.at ≡ Some c.in-Some.token.now =
    ap (λ (l : List Kept). slice_get l c.args.at) (sym c.as_slice.ensures.value) ∙ c.in-Some.ensures in
    let one = kept_at 0 ks c.self.inside.bytes.items c.args.at c.in-Some.token.now c.self.invariant is in
    let begins = c.start_of-start.ensures ∙ ap (λ (l : List Kept). end_of_all 0 (take c.args.at l)) c.as_slice-in-Some.ensures.value in
    omega (arith, begins, c.end-end.ensures, one.order)

pub keep_part-requires-clause-order : goal.keep_part-requires-clause-order
keep_part-requires-clause-order c =
    let ks = c.self.inside.kept.items in
    let is : slice_get ks c.args.at ≡ Some c.in-Some.token.now =
    ap (λ (l : List Kept). slice_get l c.args.at) (sym c.as_slice.ensures.value) ∙ c.in-Some.ensures in
    let one = kept_at 0 ks c.self.inside.bytes.items c.args.at c.in-Some.token.now c.self.invariant is in
    let begins = c.start_of-start.ensures ∙ ap (λ (l : List Kept). end_of_all 0 (take c.args.at l)) c.as_slice-in-Some.ensures.value in
    omega (arith, begins, c.end-end.ensures, one.order)

pub keep_part-requires-clause-there : goal.keep_part-requires-clause-there
keep_part-requires-clause-there c =
    let ks = c.self.inside.kept.items in
    let is : slice_get ks c.args.at ≡ Some c.in-Some.token.now =
    ap (λ (l : List Kept). slice_get l c.args.at) (sym c.as_slice.ensures.value) ∙ c.in-Some.ensures in
    let one = kept_at 0 ks c.self.inside.bytes.items c.args.at c.in-Some.token.now c.self.invariant is in
    omega (arith, c.end-end.ensures, one.there)

pub invariant_of-self : goal.invariant_of-self
invariant_of-self c =
    let ks = c.self.inside.kept.items in let now = c.push_reserved.new.self.items in
    let bytes = c.self.inside.bytes.items in let new = c.keep_part.new.bytes.items in let k = c.in-Some.token.now in
    let alone : IsAlone ks now bytes new c.args.at k c.start_of-start.result c.end-end.result c.place-place.result = record {
      is = ap (λ (l : List Kept). slice_get l c.args.at) (sym c.as_slice.ensures.value) ∙ c.in-Some.ensures;
      begins = c.start_of-start.ensures ∙ ap (λ (l : List Kept). end_of_all 0 (take c.args.at l)) c.as_slice-in-Some.ensures.value;
      ends = c.end-end.ensures;
      left = c.keep_part.ensures;
      place_is = c.place-place.ensures;
      only = c.push_reserved.ensures.items ∙ ap (λ (l : List Kept). l ++ c.new-alone.result ∷ []) c.clear.ensures.items
          ∙ ap (λ (x : Kept). x ∷ []) c.new-alone.ensures;
    } in
    alone_kept ks now bytes new c.args.at k c.start_of-start.result c.end-end.result c.place-place.result c.self.invariant alone

pub returns-in-Some : goal.returns-in-Some
returns-in-Some c =
    let ks = c.self.inside.kept.items in let now = c.push_reserved.new.self.items in
    let bytes = c.self.inside.bytes.items in let new = c.keep_part.new.bytes.items in let k = c.in-Some.token.now in
    let alone : IsAlone ks now bytes new c.args.at k c.start_of-start.result c.end-end.result c.place-place.result = record {
      is = ap (λ (l : List Kept). slice_get l c.args.at) (sym c.as_slice.ensures.value) ∙ c.in-Some.ensures;
      begins = c.start_of-start.ensures ∙ ap (λ (l : List Kept). end_of_all 0 (take c.args.at l)) c.as_slice-in-Some.ensures.value;
      ends = c.end-end.ensures;
      left = c.keep_part.ensures;
      place_is = c.place-place.ensures;
      only = c.push_reserved.ensures.items ∙ ap (λ (l : List Kept). l ++ c.new-alone.result ∷ []) c.clear.ensures.items
          ∙ ap (λ (x : Kept). x ∷ []) c.new-alone.ensures;
    } in
    alone_tokens ks now bytes new c.args.at k c.start_of-start.result c.end-end.result c.place-place.result c.self.invariant alone
    ∙ ap (λ (ts : List SourceToken). take 1 (drop c.args.at ts)) c.self.view_is

pub returns-in-None : goal.returns-in-None
returns-in-None c = c.clear-in-None.ensures ∙ none_alone c.self.inside.kept.items c.self.inside.bytes.items c.args.at
    (omega (arith, c.in-None.ensures, ap (λ (l : List Kept). length l) c.as_slice.ensures.value))
    ∙ ap (λ (ts : List SourceToken). take 1 (drop c.args.at ts)) c.self.view_is
