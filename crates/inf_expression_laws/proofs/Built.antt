-- The events of a text build an expression.
use Rattle.std.proofs.Common.{◌≡◌, ℕ, zero, suc, ◌+◌, ◌-◌, List, [], ◌∷◌, length, Option, Some, None, refl, ap}
use Rattle.inf_machine.specs.Grammar.{Event, Took, Did}
use Rattle.inf_syntax.specs.declared.actions.Action.{Action}
use Rattle.inf_expressions.specs.{declared.operators.Binary.Binary, declared.operators.Unary.Unary}
use Rattle.inf_expressions.specs.Sources.{Source, Leaf, Brackets, Prefix, Suffix, Two, Then, Call, Alone}
use Rattle.inf_unit.specs.{Steps.step_of, declared.steps.GatherStep.GatherStep}
use Rattle.inf_expression_laws.specs.{Gathered.first_of, Precedence.leaf_count, Precedence.list_of}

-- Expressions so far, the latest first; the number of parts of each open list, and the order of each open bracket; the
-- order of the next token, and the place of the next leaf.
pub record State : Type 0 where
  pub sources : List Source
  pub counts : List ℕ
  pub brackets : List ℕ
  pub order : ℕ
  pub place : ℕ

abbrev pub over_one : (Source → Source) → List Source → List Source
over_one make [] = []
over_one make (a ∷ sources) = make a ∷ sources

abbrev pub over_two : (Source → Source → Source) → List Source → List Source
over_two make (b ∷ a ∷ sources) = make a b ∷ sources
over_two make _ = []

-- the latest expressions as a list
abbrev pub joined : ℕ → List Source → List Source
joined zero sources = sources
joined (suc n) sources = over_two Then (joined n sources)

abbrev pub in_front_of : Unary → Source → Source
in_front_of op a = Prefix (first_of a - 1) op a

abbrev pub called : List ℕ → List Source → List Source
called (suc n ∷ counts) sources = over_two Call (joined n sources)
called _ sources = over_one Alone sources

abbrev pub tested : Binary → List ℕ → List Source → List Source
tested op (suc n ∷ counts) sources = over_two (Two op) (joined n sources)
tested op _ sources = sources

abbrev pub behind : List ℕ → List ℕ
behind [] = []
behind (n ∷ numbers) = numbers

abbrev pub one_more : List ℕ → List ℕ
one_more [] = []
one_more (n ∷ counts) = suc n ∷ counts

abbrev pub bracketed : List ℕ → List Source → List Source
bracketed [] sources = sources
bracketed (order ∷ orders) sources = over_one (Brackets order) sources

abbrev pub stepped : Option GatherStep → State → State
stepped None s = s
stepped (Some GatherStep.Leaf) s = record s { sources = Leaf (s.order - 1) (s.order - 1) s.place ∷ s.sources; place = s.place + 1 }
stepped (Some GatherStep.Action) s = record s { sources = Leaf (s.order - 2) (s.order - 1) s.place ∷ s.sources; place = s.place + 1 }
stepped (Some GatherStep.System) s = record s { sources = Leaf (s.order - 2) (s.order - 1) s.place ∷ s.sources; place = s.place + 1 }
stepped (Some (GatherStep.Prefix op)) s = record s { sources = over_one (in_front_of op) s.sources }
stepped (Some (GatherStep.Suffix op)) s = record s { sources = over_one (Suffix op) s.sources }
stepped (Some (GatherStep.Two op)) s = record s { sources = over_two (Two op) s.sources }
stepped (Some GatherStep.Comma) s = record s { sources = over_two (Two Binary.Comma) s.sources }
stepped (Some GatherStep.List) s = record s { counts = 0 ∷ s.counts }
stepped (Some GatherStep.Part) s = record s { counts = one_more s.counts }
stepped (Some GatherStep.Call) s = record s { sources = called s.counts s.sources; counts = behind s.counts }
stepped (Some (GatherStep.Test op)) s = record s { sources = tested op s.counts s.sources; counts = behind s.counts }
stepped (Some GatherStep.Bracket) s = record s { brackets = (s.order - 1) ∷ s.brackets }
stepped (Some GatherStep.Bracketed) s = record s { sources = bracketed s.brackets s.sources; brackets = behind s.brackets }

abbrev pub built : List (Event Action) → State → State
built [] s = s
built (Took atom ∷ events) s = built events (record s { order = s.order + 1 })
built (Did a ∷ events) s = built events (stepped (step_of a) s)

-- a state with an expression more, of `count` tokens
abbrev pub pushed : ℕ → Source → State → State
pushed count a s = record s { sources = a ∷ s.sources; order = s.order + count; place = s.place + leaf_count a }

-- Tells whether some events, before others, build an expression in a state in which the next token and leaf have these
-- places.
abbrev pub Builds : (List (Event Action) → List (Event Action)) → ℕ → ℕ → ℕ → Source → Type 0
Builds events order place count a =
    (s : State) → s.order ≡ order → s.place ≡ place → (more : List (Event Action)) → built (events more) s ≡ built more (pushed count a s)

-- the expressions with several more, which are the parts of an open list
abbrev pub all_sources : List Source → List Source → List Source
all_sources [] sources = sources
all_sources (a ∷ parts) sources = all_sources parts (a ∷ sources)

pub list_joined : (a : Source) (parts sources : List Source) →
    joined (length parts) (all_sources (a ∷ parts) sources) ≡ list_of a parts ∷ sources
list_joined a [] sources = refl
list_joined a (b ∷ parts) sources = ap (over_two Then) (list_joined b parts (a ∷ sources))
