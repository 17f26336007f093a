-- A nested statement in which no case may stand, where one may.
use Rattle.std.proofs.Common.{◌≡◌, ◌++◌, Bool, false, refl, ◌∙◌, ap}
use Rattle.inf_settings.specs.Bounds.{Limits}
use Rattle.inf_compilation.specs.{Actions.Compilation, Context.Context}
use Rattle.inf_statement_laws.specs.Laid.{laid}
use Rattle.inf_statement_laws.specs.Nested.{Do, For, If, IfElse, Nested, Objectloop, Plain, Switch, Then, While, happenings}
use Rattle.inf_routine_trees.proofs.Effects.{Effects, put}

pub wider : (b : Bool) → Nested false → Nested b
wider b (Plain plain) = Plain plain
wider b (Then first second) = Then (wider b first) (wider b second)
wider b (If opens test body closes) = If opens test body closes
wider b (IfElse opens test body joins word other closes) = IfElse opens test body joins word other closes
wider b (While opens test body closes) = While opens test body closes
wider b (Do opens body word joins test closes) = Do opens body word joins test closes
wider b (For opens start joins test step bracket body closes) = For opens start joins test step bracket body closes
wider b (Objectloop opens loop ends joins bracket body closes) = Objectloop opens loop ends joins bracket body closes
wider b (Switch opens value cases brace closes) = Switch opens value cases brace closes

pub wider_same : (b : Bool) (n : Nested false) → happenings (wider b n) ≡ happenings n
unfolding wider
wider_same b (Then first second) =
    ap (λ l. l ++ happenings (wider b second)) (wider_same b first) ∙ ap (λ l. happenings first ++ l) (wider_same b second)
wider_same b other = refl

pub wider_laid : (b : Bool) (limits : Limits) (context : Context) (n : Nested false) (w : Compilation)
    → laid limits context (wider b n) w ≡ laid limits context n w
unfolding wider
wider_laid b limits context (Then first second) w = ap (laid limits context (wider b second)) (wider_laid b limits context first w)
    ∙ wider_laid b limits context second (laid limits context first w)
wider_laid b limits context other w = refl

-- with the effects behind its statements
pub wider_put : (b : Bool) (effects : Effects) (n : Nested false) → put effects (wider b n) ≡ (wider b (put effects n).0, (put effects n).1)
unfolding wider
wider_put b effects (Then first second) =
    let x = put effects first in
    ap (λ (y : Nested b × Effects). let z = put y.1 (wider b second) in (Then y.0 z.0, z.1)) (wider_put b effects first)
    ∙ ap (λ (z : Nested b × Effects). (Then (wider b x.0) z.0, z.1)) (wider_put b x.1 second)
wider_put b effects other = refl
