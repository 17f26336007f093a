use Rattle.std.proofs.Common.{◌≡◌, ◌≤◌, Some, List, length, option_map, slice_get, ap, arith, sym, ◌∙◌}
use Rattle.inf_unit.specs.{Tokens.SourceToken, Units.place_at, declared.kept.Kept.Kept}
use Rattle.inf_unit.proofs.KeptTokens.{got_none, place_got}
use Rattle.inf_unit.proofs.unit_tokens.UnitTokens.place.Goals as goal

pub returns-in-Some : goal.returns-in-Some
returns-in-Some c =
    let ks = c.self.inside.kept.items in let k = c.in-Some.token.now in
    let is : slice_get ks c.args.at ≡ Some k =
    ap (λ (l : List Kept). slice_get l c.args.at) (sym c.as_slice.ensures.value) ∙ c.in-Some.ensures in
    ap Some c.place.ensures ∙ place_got ks c.self.inside.bytes.items c.args.at k is
    ∙ ap (λ (ts : List SourceToken). place_at ts c.args.at) c.self.view_is

pub returns-in-None : goal.returns-in-None
returns-in-None c =
    let past : length c.self.inside.kept.items ≤ c.args.at =
    omega (arith, c.in-None.ensures, ap (λ (l : List Kept). length l) c.as_slice.ensures.value) in
    ap (option_map (λ (t : SourceToken). t.place)) (got_none c.self.inside.kept.items c.self.inside.bytes.items c.args.at past)
    ∙ ap (λ (ts : List SourceToken). place_at ts c.args.at) c.self.view_is
