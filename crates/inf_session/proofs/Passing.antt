-- A token of which a first look shows that it is kept, with nothing else to come of it, is a step of the reader alone. One of which
-- a first look shows that it only passes, in a side that is left out, is no step of the reader.
use Rattle.std.proofs.Common.{◌≡◌, ◌||◌, ℕ, List, Bool, true, false, Option, None, cond, nat_lt, refl, sym, ap, ◌∙◌}
use Rattle.inf_settings.specs.Bounds.{Limits}
use Rattle.inf_scanner.specs.{declared.tokens.Place.Place, declared.tokens.TokenKind.TokenKind}
use Rattle.inf_unit.specs.Tokens.{SourceToken}
use Rattle.inf_compilation.specs.Context.{Context}
use Rattle.inf_conditionals.specs.{Open.Conditions, Open.silent, Said.Said, declared.filtered.Site.Site}
use Rattle.inf_conditionals.specs.Judging.{Behind, judged, kept, none_handed, passed}
use Rattle.inf_reader.specs.{Handing.is_between, Handing.is_inside, Handing.judged_taken, Handing.said_told, Handing.site_of}
use Rattle.inf_reader.specs.{Reading.ReaderState, Reading.step}
use Rattle.inf_reader.proofs.Inside.{not_between}
use Rattle.inf_session.specs.Taking.{Taken, quoted_behind, quoted_bytes, token_at, token_taken}

-- the state behind a token whose result among conditionals is known
abbrev behind : Limits → Context → Site → SourceToken → ReaderState → ℕ → Behind → Taken
behind limits context site t s quoted b = record {
  conditions = silent b.now;
  stand = judged_taken limits context t b.judged (said_told limits b.now.said context s);
  quoted = quoted_behind site b.judged t quoted;
}

-- the state behind a token that is kept, where this is the message about a condition
abbrev told : Limits → Context → Site → SourceToken → Conditions → ReaderState → ℕ → Option Said → Taken
told limits context site t c s quoted said = record {
  conditions = silent c;
  stand = judged_taken limits context t (kept c).judged (said_told limits said context s);
  quoted = quoted_behind site (kept c).judged t quoted;
}

-- the state where the reader alone takes the token, and this message stays
abbrev stepped : Limits → Context → Site → SourceToken → Conditions → ReaderState → ℕ → Option Said → Taken
stepped limits context site t c s quoted said = record {
  conditions = record c { said = said };
  stand = step limits context t s.reading s.work;
  quoted = quoted_behind site (kept c).judged t quoted;
}

pub passes_on : (limits : Limits) (context : Context) (t : SourceToken) (c : Conditions) (s : ReaderState) (quoted : ℕ)
    → judged (site_of context.settings s.reading) s.work.output t c ≡ kept c → c.said ≡ None → token_taken limits context t c s quoted
    ≡ record {
      conditions = c;
      stand = step limits context t s.reading s.work;
      quoted = quoted_behind (site_of context.settings s.reading) (kept c).judged t quoted;
    }
passes_on limits context t c s quoted is none =
    let site : Site = site_of context.settings s.reading in
    ap (behind limits context site t s quoted) is ∙ ap (told limits context site t c s quoted) none
    ∙ ap (stepped limits context site t c s quoted) (sym none)

pub passes_inside : (limits : Limits) (context : Context) (kind : TokenKind) (bytes : List ℕ) (place : Place) (c : Conditions) (s : ReaderState)
    (quoted : ℕ) → is_inside s.reading ≡ true →
    (let t = token_at false kind bytes place s.work in judged (site_of context.settings s.reading) s.work.output t c ≡ kept c) →
    c.said ≡ None → token_taken limits context (token_at (is_between s.reading) kind bytes place s.work) c s quoted ≡ record {
      conditions = c;
      stand = step limits context (token_at false kind bytes place s.work) s.reading s.work;
      quoted = quoted_behind (site_of context.settings s.reading) (kept c).judged (token_at false kind bytes place s.work) quoted;
    }
passes_inside limits context kind bytes place c s quoted inside is none =
    ap (λ (b : Bool). token_taken limits context (token_at b kind bytes place s.work) c s quoted) (not_between s.reading inside)
    ∙ passes_on limits context (token_at false kind bytes place s.work) c s quoted is none

-- the state where nothing is handed on, where this is the message about a condition
abbrev left : Limits → Context → Conditions → ReaderState → ℕ → Option Said → Taken
left limits context c s quoted said = record { conditions = record c { said = said }; stand = said_told limits None context s; quoted = quoted }

-- a token that is not handed on counts for nothing, be it read in a quiet place or not
uncounted : (is_quiet : Bool) (quoted other : ℕ) → cond (is_quiet || true) quoted other ≡ quoted
uncounted true quoted other = refl
uncounted false quoted other = refl

pub passes_over : (limits : Limits) (context : Context) (t : SourceToken) (c d : Conditions) (s : ReaderState) (quoted : ℕ)
    → judged (site_of context.settings s.reading) s.work.output t c ≡ passed d → d.said ≡ None
    → token_taken limits context t c s quoted ≡ record { conditions = d; stand = s; quoted = quoted }
passes_over limits context t c d s quoted is none =
    let site : Site = site_of context.settings s.reading in
    ap (behind limits context site t s quoted) is ∙ ap (λ (said : Option Said). record {
      conditions = silent d;
      stand = said_told limits said context s;
      quoted = quoted_behind site none_handed t quoted;
    }) none ∙ ap (λ (n : ℕ). left limits context d s n None)
    (uncounted site.is_quiet quoted (cond (nat_lt quoted (quoted_bytes t)) (quoted_bytes t) quoted))
    ∙ ap (left limits context d s quoted) (sym none)
