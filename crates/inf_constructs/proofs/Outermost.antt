-- The outermost open statement is the one that was opened first.
use Rattle.std.proofs.Common.{◌≡◌, List, [], ◌∷◌, ◌++◌, Option, Some, None, refl, ap, sym, ◌∙◌, reverse, slice_get}
use Rattle.std.proofs.lemmas.List.{reverse-append}
use Rattle.inf_constructs.specs.{declared.constructs.Construct.Construct, declared.constructs.Kind.Kind}
use Rattle.inf_constructs.specs.Constructs.{outermost, outermost_from}

behind : (constructs : List Construct) (c : Construct) (last : Option Kind) → outermost_from (constructs ++ c ∷ []) last ≡ Some c.kind
behind [] c last = refl
behind (d ∷ constructs) c last = behind constructs c (Some d.kind)

reversed : (c : Construct) (items : List Construct) → outermost (reverse (c ∷ items)) ≡ Some c.kind
reversed c items = ap (λ (l : List Construct). outermost_from l None) (reverse-append (c ∷ []) items) ∙ behind (reverse items) c None

pub outermost_none : (items : List Construct) → None ≡ slice_get items 0 → outermost (reverse items) ≡ None
outermost_none [] e = refl
outermost_none (c ∷ items) e = cc

pub outermost_some : (items : List Construct) (c : Construct) → Some c ≡ slice_get items 0 → outermost (reverse items) ≡ Some c.kind
outermost_some [] c e = cc
outermost_some (d ∷ items) c e =
    let same : c ≡ d = cc in reversed d items ∙ ap (λ (k : Construct). Some k.kind) (sym same)
