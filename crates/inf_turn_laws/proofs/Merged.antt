-- Where no statement is over, the effect of a conditional directive that ends is behind the token like the others.
use Rattle.std.proofs.Common.{◌≡◌, ◌⊎◌, inl, inr, ℕ, List, [], ◌∷◌, Option, Some, None, refl, ◌∙◌, ap, subst}
use Rattle.inf_settings.specs.Bounds.{Limits}
use Rattle.inf_machine.specs.{Laws.IsSpaced, Machine.Taken, Machine.taken, Machine.work, declared.symbols.Symbol.Symbol}
use Rattle.inf_machine.proofs.Taking.{spaced_left}
use Rattle.inf_syntax.specs.declared.actions.Action.{Action}
use Rattle.inf_grammar.specs.{Evaluated.language_is_decided, Language.grammar, Language.known, Routines.closings}
use Rattle.inf_compilation.specs.{Actions.Compilation, Actions.took, Context.Context}
use Rattle.inf_reader.specs.Acting.{all_acted}
use Rattle.inf_expression_laws.specs.Gathered.{AreSeen}
use Rattle.inf_statement_laws.specs.{Happenings.Between, Laid.passed}
use Rattle.inf_statement_laws.specs.Readings.{Seen, all_taken, behind_token, directed}
use Rattle.inf_language.specs.Texts.{NoneClosesAhead, atoms_of, tokens_of}
use Rattle.inf_program.specs.definition.Fronts.{Course, Derives}
use Rattle.inf_program.proofs.Events.{First, first_token, not_ahead}
use Rattle.inf_turn_laws.specs.Directives.{all_merged}

-- By the numbers of statements that are over behind the tokens, a conditional directive ends only where none is.
abbrev pub ClosesNone : List ℕ → List Seen → Type 0
ClosesNone counts [] = Unit {0}
ClosesNone [] (s ∷ seen) = Unit {0}
ClosesNone (count ∷ counts) (s ∷ seen) = ((count ≡ 0) ⊎ (s.directive ≡ None)) × ClosesNone counts seen

directed_merged : (limits : Limits) (d : Option Between) (count : ℕ) (b : Between) (w : Compilation) → (count ≡ 0) ⊎ (d ≡ None)
    → directed limits d count (passed b w) ≡ passed (behind_token d 0 b) w
directed_merged limits None count b w closes = refl
directed_merged limits (Some m) count b w (inl none) = ap (passed m) (not_ahead limits count (passed b w) none)
directed_merged limits (Some m) count b w (inr never) = let no_option : Some m ≡ None = never in cc

pub taken_merged : (limits : Limits) (context : Context) (seen : List Seen) (symbols left : List (Symbol Action)) (course : Course)
    → Derives symbols (atoms_of seen) course left → IsSpaced grammar known symbols → ClosesNone course.ends seen → (w : Compilation)
    → all_taken limits context seen symbols w ≡ all_taken limits context (all_merged seen) symbols w
taken_merged limits context [] symbols left course d spaced closes w = refl
taken_merged limits context (s ∷ seen) symbols left course d spaced closes w =
    let f : First s.atom symbols (atoms_of seen) course left = first_token s.atom symbols (atoms_of seen) course left d spaced in
    let now : Taken Action = taken grammar known s.atom symbols in
    let on : ((closings now.left ≡ 0) ⊎ (s.directive ≡ None)) × ClosesNone f.ahead.rest.ends seen =
    subst (λ (counts : List ℕ). ClosesNone counts (s ∷ seen)) f.ahead.ends closes in
    let v : Compilation = took context s.token (all_acted limits context s.token.place now.actions w) in
    ap (all_taken limits context seen now.left) (directed_merged limits s.directive (closings now.left) s.behind v on.0)
    ∙ taken_merged limits context seen now.left left f.ahead.rest f.ahead.derives
    (spaced_left grammar known language_is_decided s.atom (work known s.atom symbols) symbols f.fits_here spaced) on.1
    (passed (behind_token s.directive 0 s.behind) v)

pub none_merged : (seen : List Seen) → NoneClosesAhead (all_merged seen)
none_merged [] = tt
none_merged (s ∷ seen) = (refl, none_merged seen)

pub merged_atoms : (seen : List Seen) → atoms_of (all_merged seen) ≡ atoms_of seen
merged_atoms [] = refl
merged_atoms (s ∷ seen) = ap (λ (atoms : List ℕ). s.atom ∷ atoms) (merged_atoms seen)

pub merged_seen : (seen : List Seen) → AreSeen (atoms_of seen) (tokens_of seen)
    → AreSeen (atoms_of (all_merged seen)) (tokens_of (all_merged seen))
merged_seen [] are = tt
merged_seen (s ∷ seen) are = (are.0, merged_seen seen are.1)
