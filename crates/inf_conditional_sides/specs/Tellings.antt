-- Of each token the same is told of a condition by conditionals and by sides, and the same tokens of conditions are counted.
use Rattle.std.specs.Prelude.{◌≡◌, true, None}
use Rattle.inf_output.specs.Output.{Out}
use Rattle.inf_unit.specs.Tokens.{SourceToken}
use Rattle.inf_conditionals.specs.{Judging.judged, Open.Conditions, declared.filtered.Site.Site}
use Rattle.inf_conditional_sides.specs.{Judged.Agree, Judged.FewIn, Judged.is_settled, Sides.Sides, Told.Told, Told.told_of}

abbrev pub telling : Conditions → Told
telling c = record { said = c.said; most_tokens = c.most_tokens }

-- No message waits before a token.
abbrev pub ConditionsAreTold : Type 0
ConditionsAreTold =
    (site : Site) (o : Out) (t : SourceToken) (c : Conditions) (s : Sides) → Agree c s → is_settled c ≡ true → FewIn c.left_out
    → c.said ≡ None
    → telling (judged site o t c).now ≡ told_of site.is_quiet site.longest c.declared o t s (telling c)
