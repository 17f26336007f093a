-- The actions of an expression only gather, so a compilation gathers what a unit by itself does.
use Rattle.std.proofs.Common.{◌≡◌, ℕ, List, true, refl, ◌∙◌, ap}
use Rattle.inf_settings.specs.Bounds.{Limits}
use Rattle.inf_machine.specs.declared.symbols.Symbol.{Symbol}
use Rattle.inf_machine.specs.Grammar.{Event, IsOneOf, Leads, action, here, row, token}
use Rattle.inf_syntax.specs.declared.actions.Action.{Action}
use Rattle.inf_grammar.specs.Language.{grammar}
use Rattle.inf_unit.specs.{Roles.role_of, Steps.step_in, Units.Unit, declared.roles.Role.Role}
use Rattle.inf_expression_laws.proofs.{ExpressionsRead.expressions_are_read, Items.Item}
use Rattle.inf_expression_laws.proofs.Typed.{Change, Passes, below, form_passes, joined, row_passes, step_changes}
use Rattle.inf_expression_laws.proofs.Typed as typed
use Rattle.inf_language.specs.{Gathered.ExpressionsAreGathered, Texts.atoms_of, Texts.tokens_of, Units.AllGather, Units.gathers_in}
use Rattle.inf_language.proofs.UnitsAlone.{units_are_read_alone}

step_gathers : (r : Role) (c : Change) → IsOneOf c (step_changes (step_in r)) → gathers_in r ≡ true
step_gathers (Role.Gather s) c one = refl
step_gathers (Role.Note n) c one = elim one [ ]
step_gathers (Role.End e) c one = elim one [ ]
step_gathers (Role.Open o) c one = elim one [ ]
step_gathers Role.Join c one = elim one [ ]
step_gathers Role.Close c one = elim one [ ]
step_gathers Role.Deeper c one = elim one [ ]
step_gathers Role.MaybeDeeper c one = elim one [ ]
step_gathers Role.Nothing c one = elim one [ ]

all_gather : {symbols left : List (Symbol Action)} {atoms : List ℕ} {events : List (Event Action)}
    → Leads grammar symbols atoms events left → {items target : List Item} → Passes items symbols target → AllGather events
all_gather here p = tt
all_gather (token has leads) (typed.token p) = all_gather leads p
all_gather (token has leads) (typed.close within is p) = all_gather leads p
all_gather (action leads) (typed.sure p) = (refl, all_gather leads p)
all_gather (action {a} leads) (typed.act c rest one within p) = (step_gathers (role_of a) c one, all_gather leads p)
all_gather (row {rule} {r} is_row free leads) (typed.rule c rest is within p) =
    all_gather leads (joined (below rest (row_passes rule c r is is_row)) p)

pub expressions_are_gathered : (limits : Limits) → ExpressionsAreGathered limits
expressions_are_gathered limits context next symbols level form events seen text are w ready early few =
    let alone = units_are_read_alone limits context next events seen w (all_gather text (form_passes symbols level form)) in
    let read = expressions_are_read symbols level form (atoms_of seen) events text w.unit (tokens_of seen) are ready early few in
    (read.0, read.1, ap (λ (u : Unit). u.gathering) alone ∙ read.2, ap (λ (u : Unit). u.tokens) alone ∙ read.3)
