-- While an expression is read, the reports of its tokens do not depend on what is gathered of it, nor the other way round.
use Rattle.std.proofs.Common.{◌≡◌, ℕ, ◌+◌, ◌-◌, List, [], ◌∷◌, ◌++◌, length, Bool, true, false, Option, Some, None, refl, sym, ◌∙◌, ap}
use Rattle.std.proofs.Common.{append_assoc, arith, subst, ◌&&◌, if◌then◌else◌, nat_lt, option_map, slice_get, suc, is_some}
use Rattle.std.proofs.{Math.Nat.max-zero, lemmas.List.length-append}
use Rattle.inf_settings.specs.Bounds.{Limits}
use Rattle.inf_scanner.specs.declared.tokens.Place.{Place}
use Rattle.inf_machine.specs.Grammar.{Did, Event, Took}
use Rattle.inf_syntax.specs.declared.actions.Action.{Action}
use Rattle.inf_gathering.specs.Gatherings.{Gathering}
use Rattle.inf_constructs.specs.Constructs.{depth as open_depth}
use Rattle.inf_unit.specs.{Roles.role_of, Steps.step_in, Tokens.SourceToken, declared.roles.Role.Role, declared.steps.GatherStep.GatherStep}
use Rattle.inf_unit.specs.Units.{Unit, acted, depth_behind, long_at, long_from, outer_tokens, place_at, played as unit_played, stepped}
use Rattle.inf_unit.specs.Units.{taken}
use Rattle.inf_compilation.specs.Context.{Context, longest}
use Rattle.inf_compilation.specs.Actions.{Compilation, nested, opens, stopped, token_checked, took}
use Rattle.inf_reader.specs.Acting.{act, played}
use Rattle.inf_expression_laws.specs.Gathered.{read_by}
use Rattle.inf_statement_laws.specs.{Laid.next_comes, Laid.passed, Laid.run, Readings.Seen}
use Rattle.inf_language.specs.{Texts.happenings_before, Texts.tokens_of, Units.AllSteps, Units.TakeAll, Units.is_step}
use Rattle.inf_language.specs.Constants.{brackets_behind, expression_told, first_past, is_too_deep, length_told, token_told}

-- The report of a token leaves the unit unchanged, and does not depend on it.

nested_beside : (context : Context) (place : Place) (is_deep : Bool) (w : Compilation) (u : Unit)
    → nested context place is_deep (record w { unit = u }) ≡ record (nested context place is_deep w) { unit = u }
nested_beside context place true w u = refl
nested_beside context place false w u = refl

took_beside : (context : Context) (t : SourceToken) (too_many : Option Place) (u : Unit) (w : Compilation)
    → token_checked context t (stopped context too_many (record w { unit = u }))
    ≡ record (token_told context t u.depth too_many (outer_tokens u) w) { unit = u }
took_beside context t None u w =
    let v = length_told context None (outer_tokens u) w in
    nested_beside context t.place (opens t.kind && is_too_deep u.depth (open_depth v.constructs) 0) v u
took_beside context t (Some place) u w =
    let v = length_told context (Some place) (outer_tokens u) w in
    nested_beside context t.place (opens t.kind && is_too_deep u.depth (open_depth v.constructs) 0) v u

-- A token is taken by the unit, and reported beside that.
pub took_is_told : (context : Context) (t : SourceToken) (u : Unit) (w : Compilation) → let v = taken t u in
    took context t (record w { unit = u })
    ≡ record (token_told context t v.depth (long_at (longest context) v) (outer_tokens v) w) { unit = v }
took_is_told context t u w = took_beside context t (long_at (longest context) (taken t u)) (taken t u) w

nested_opening : (context : Context) (place : Place) (is_deep : Bool) (w : Compilation)
    → (nested context place is_deep w).opening ≡ w.opening
nested_opening context place true w = refl
nested_opening context place false w = refl

told_opening : (context : Context) (t : SourceToken) (brackets : ℕ) (too_many : Option Place) (count : ℕ) (w : Compilation)
    → (token_told context t brackets too_many count w).opening ≡ w.opening
told_opening context t brackets None count w =
    let v = length_told context None count w in
    nested_opening context t.place (opens t.kind && is_too_deep brackets (open_depth v.constructs) 0) v
told_opening context t brackets (Some place) count w =
    let v = length_told context (Some place) count w in
    nested_opening context t.place (opens t.kind && is_too_deep brackets (open_depth v.constructs) 0) v

-- A token outside of expressions that opens no bracket has no report.
pub nothing_told : (context : Context) (t : SourceToken) (brackets : ℕ) (w : Compilation) → opens t.kind ≡ false
    → token_told context t brackets None 0 w ≡ w
nothing_told context t brackets w plain =
    let v = length_told context None 0 w in
    ap (λ b. nested context t.place (b && is_too_deep brackets (open_depth v.constructs) 0) v) plain
    ∙ ap (λ n. record w { most_tokens = n }) (max-zero w.most_tokens)

pub none_waits : (w : Compilation) → w.opening ≡ None → next_comes w ≡ w
none_waits w none = ap (λ o. record w { opening = o }) (sym none)

-- Lemmas about the tokens of an expression behind others of its unit

got_behind : {A : Type 0} (before now : List A) (n : ℕ) → slice_get (before ++ now) (length before + n) ≡ slice_get now n
got_behind [] now n = let same : 0 + n ≡ n = omega arith in ap (slice_get now) same
got_behind (x ∷ before) now n =
    let same : suc (length before) + n ≡ suc (length before + n) = omega arith in
    ap (slice_get (x ∷ (before ++ now))) same ∙ got_behind before now n

too_many_is : (before now : List SourceToken) (most : ℕ) → long_from (before ++ now) most (length before) true ≡ first_past most now
too_many_is before now most =
    let count : length (before ++ now) - length before ≡ length now =
    let all = length-append before now in omega (arith, all) in
    ap (λ n. if nat_lt most n then place_at (before ++ now) (length before + most) else None) count
    ∙ ap (λ o. if nat_lt most (length now) then option_map (λ (t : SourceToken). t.place) o else None) (got_behind before now most)

-- A unit whose expression begins behind some of its tokens, and has some more tokens so far
abbrev pub with_expression : List SourceToken → Unit → Gathering → ℕ → List SourceToken → Unit
with_expression before u g brackets front = record u {
  tokens = before ++ front;
  gathering = g;
  outer = Some (length before);
  is_sure = true;
  is_over = false;
  depth = brackets;
}

-- A step changes nothing but what is gathered.

stepped_gathers : (s : GatherStep) (u : Unit) → stepped s u ≡ record u { gathering = (stepped s u).gathering }
stepped_gathers GatherStep.Leaf u = refl
stepped_gathers GatherStep.Action u = refl
stepped_gathers GatherStep.System u = refl
stepped_gathers _ u = refl

played_gathers : (r : Role) (u : Unit) → is_some (step_in r) ≡ true → unit_played r u ≡ record u { gathering = (unit_played r u).gathering }
played_gathers (Role.Gather s) u is = stepped_gathers s u
played_gathers _ u is = cc

acted_gathers : (a : Action) (u : Unit) → is_step a ≡ true → acted a u ≡ record u { gathering = (acted a u).gathering }
acted_gathers a u is = played_gathers (role_of a) u is

played_alone : (limits : Limits) (context : Context) (place : Place) (r : Role) (w : Compilation) → is_some (step_in r) ≡ true
    → played limits context place r w ≡ record w { unit = unit_played r w.unit }
played_alone limits context place (Role.Gather s) w is = refl
played_alone limits context place _ w is = cc

step_acts : (limits : Limits) (context : Context) (place : Place) (a : Action) (w : Compilation) (u : Unit) → is_step a ≡ true
    → act limits context place a (record w { unit = u }) ≡ record w { unit = record u { gathering = (acted a u).gathering } }
step_acts limits context place a w u is = played_alone limits context place (role_of a) (record w { unit = u }) is
    ∙ ap (λ (x : Unit). record w { unit = x }) (acted_gathers a u is)

-- The tokens of an expression and the steps that gather it, one by one

pub told_beside : (limits : Limits) (context : Context) (next : Place) (before : List SourceToken) (u : Unit) (events : List (Event Action))
    (seen : List Seen) (g : Gathering) (brackets : ℕ) (front : List SourceToken) (w : Compilation)
    → AllSteps events → TakeAll events seen → w.opening ≡ None
    → run limits context (happenings_before next events seen) (record w { unit = with_expression before u g brackets front })
    ≡ record (expression_told context front brackets seen w) {
      unit = read_by events (tokens_of seen) (with_expression before u g brackets front);
    }
told_beside limits context next before u [] [] g brackets front w steps all none = refl
told_beside limits context next before u [] (s ∷ seen) g brackets front w steps all none = absurd all
told_beside limits context next before u (Did a ∷ events) [] g brackets front w steps all none =
    let now = with_expression before u g brackets front in
    ap (run limits context (happenings_before next events [])) (step_acts limits context next a w now steps.0)
    ∙ (told_beside limits context next before u events [] (acted a now).gathering brackets front w steps.1 all none
    ∙ ap (λ x. record w { unit = read_by events [] x }) (sym (acted_gathers a now steps.0)))
told_beside limits context next before u (Did a ∷ events) (s ∷ seen) g brackets front w steps all none =
    let now = with_expression before u g brackets front in
    let told = expression_told context front brackets (s ∷ seen) w in
    ap (run limits context (happenings_before next events (s ∷ seen))) (step_acts limits context s.token.place a w now steps.0)
    ∙ (told_beside limits context next before u events (s ∷ seen) (acted a now).gathering brackets front w steps.1 all none
    ∙ ap (λ x. record told { unit = read_by events (tokens_of (s ∷ seen)) x }) (sym (acted_gathers a now steps.0)))
told_beside limits context next before u (Took atom ∷ events) [] g brackets front w steps all none = absurd all
told_beside limits context next before u (Took atom ∷ events) (s ∷ seen) g brackets front w steps all none =
    let now = with_expression before u g brackets front in
    let t = s.token in
    let so_far = front ++ t ∷ [] in
    let behind = depth_behind t.kind brackets in
    let more = with_expression before u g behind so_far in
    let told = token_told context t behind (first_past (longest context) so_far) (length so_far) w in
    let is_more : taken t now ≡ more = ap (λ tokens. record more { tokens = tokens }) (append_assoc before front (t ∷ [])) in
    let count : length (before ++ so_far) - length before ≡ length so_far =
    let all_tokens = length-append before so_far in omega (arith, all_tokens) in
    let one : took context t (record w { unit = now }) ≡ record told { unit = more } = took_is_told context t now w
    ∙ (ap (λ (x : Unit). record (token_told context t x.depth (long_at (longest context) x) (outer_tokens x) w) { unit = x }) is_more
    ∙ (ap (λ p. record (token_told context t behind p (length (before ++ so_far) - length before) w) { unit = more })
    (too_many_is before so_far (longest context))
    ∙ ap (λ n. record (token_told context t behind (first_past (longest context) so_far) n w) { unit = more }) count)) in
    let still_none : told.opening ≡ None = told_opening context t behind (first_past (longest context) so_far) (length so_far) w ∙ none in
    ap (λ x. run limits context (happenings_before next events seen) (next_comes (passed s.behind x))) one
    ∙ (ap (run limits context (happenings_before next events seen)) (none_waits (passed s.behind (record told { unit = more })) still_none)
    ∙ (told_beside limits context next before u events seen g behind so_far (passed s.behind told) steps all still_none
    ∙ ap (λ x. record (expression_told context front brackets (s ∷ seen) w) { unit = read_by events (tokens_of seen) x }) (sym is_more)))

-- Beside its tokens, the gathered expression and the number of open brackets, the unit is unchanged.
pub fields_stay : (events : List (Event Action)) (seen : List Seen) (u : Unit) (g : Gathering) (brackets : ℕ) (tokens : List SourceToken)
    → AllSteps events → TakeAll events seen
    → let x = record u { tokens = tokens; gathering = g; is_over = false; depth = brackets } in
    let r = read_by events (tokens_of seen) x in
    r ≡ record u { tokens = r.tokens; gathering = r.gathering; is_over = false; depth = brackets_behind (tokens_of seen) brackets }
fields_stay [] [] u g brackets tokens steps all = refl
fields_stay [] (s ∷ seen) u g brackets tokens steps all = absurd all
fields_stay (Did a ∷ events) seen u g brackets tokens steps all =
    let now = record u { tokens = tokens; gathering = g; is_over = false; depth = brackets } in
    let r = λ (x : Unit). read_by events (tokens_of seen) x in
    let behind = brackets_behind (tokens_of seen) brackets in
    subst (λ (x : Unit). r x ≡ record u { tokens = (r x).tokens; gathering = (r x).gathering; is_over = false; depth = behind })
    (sym (acted_gathers a now steps.0)) (fields_stay events seen u (acted a now).gathering brackets tokens steps.1 all)
fields_stay (Took atom ∷ events) [] u g brackets tokens steps all = absurd all
fields_stay (Took atom ∷ events) (s ∷ seen) u g brackets tokens steps all =
    fields_stay events seen u g (depth_behind s.token.kind brackets) (tokens ++ s.token ∷ []) steps all
