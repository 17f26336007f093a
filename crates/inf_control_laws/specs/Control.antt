-- Statements as control flow: a run of each, from a store to a store, and the way in which it ends. Designer's Manual, fourth edition,
-- sections 1.7 to 1.9.
use Rattle.std.specs.Prelude.{ℕ, zero, suc, Bool, if◌then◌else◌, Option, Some, None}
use Rattle.inf_interpreter.specs.Machine.{Store, ◌then◌}

-- The end of a run: control comes behind the statement, behind the innermost statement that `break` leaves, to where the innermost loop
-- goes on by `continue`, or out of the routine with a value.
pub data Outcome : Type 0 where
  Done : Outcome
  Broke : Outcome
  Continued : Outcome
  Returned : ℕ → Outcome

-- the effect of a statement, a condition, and an effect behind which control goes on
abbrev pub Effect : Type 0
Effect = Store → Option (Outcome × Store)

abbrev pub Truth : Type 0
Truth = Store → Option (Bool × Store)

abbrev pub Change : Type 0
Change = Store → Option Store

-- Statements that hold others. One that holds none is its effect. A loop over objects finds the first object and each next one, and tells
-- whether there is one; an object that fails the condition is passed over. A `switch` keeps its value, and a case tells whether the value
-- that is kept is one of its own, which it always is by default.
pub data Control : Type 0 where
  Does : Effect → Control
  Both : Control → Control → Control
  IfTrue : Truth → Control → Control
  Either : Truth → Control → Control → Control
  WhileTrue : Truth → Control → Control
  DoUntil : Control → Truth → Control
  ForEach : Change → Truth → Change → Control → Control
  Objects : Truth → Truth → Truth → Control → Control
  ByCases : Change → Control → Control
  CaseOf : Truth → Control

-- A statement behind another one runs where control comes behind that.
abbrev pub followed_by : Effect → Outcome → Effect
followed_by next Done s = next s
followed_by next Broke s = Some (Broke, s)
followed_by next Continued s = Some (Continued, s)
followed_by next (Returned n) s = Some (Returned n, s)

abbrev pub both_run : Effect → Effect → Effect
both_run first second s = first s then λ r. followed_by second r.0 r.1

abbrev pub if_run : Truth → Effect → Effect
if_run holds body s = holds s then λ p. if p.0 then body p.1 else Some (Done, p.1)

abbrev pub else_run : Truth → Effect → Effect → Effect
else_run holds body other s = holds s then λ p. if p.0 then body p.1 else other p.1

-- A loop goes on behind its body, by `continue` too, and ends by `break`.
abbrev pub behind_turn : Effect → Outcome → Effect
behind_turn again Done s = again s
behind_turn again Broke s = Some (Done, s)
behind_turn again Continued s = again s
behind_turn again (Returned n) s = Some (Returned n, s)

-- Loops that make at most `n` turns: a loop with more turns has no effect here.
abbrev pub while_run : Truth → Effect → ℕ → Effect
while_run holds body zero s = None
while_run holds body (suc n) s =
    holds s then λ p. if p.0 then (body p.1 then λ r. behind_turn (while_run holds body n) r.0 r.1) else Some (Done, p.1)

abbrev pub until_by : Effect → Bool → Effect
until_by again b s = if b then Some (Done, s) else again s

abbrev pub until_run : Effect → Truth → ℕ → Effect
until_run body holds zero s = None
until_run body holds (suc n) s =
    body s then λ r. behind_turn (λ u. holds u then λ p. until_by (until_run body holds n) p.0 p.1) r.0 r.1

abbrev pub for_run : Truth → Change → Effect → ℕ → Effect
for_run holds step body zero s = None
for_run holds step body (suc n) s =
    holds s then λ p.
    if p.0 then (body p.1 then λ r. behind_turn (λ u. step u then λ t. for_run holds step body n t) r.0 r.1) else Some (Done, p.1)

-- turns from an object on, where one is found
abbrev pub found_run : Truth → Effect → Effect
found_run finds turns s = finds s then λ p. if p.0 then turns p.1 else Some (Done, p.1)

abbrev pub objects_run : Truth → Truth → Effect → ℕ → Effect
objects_run holds next body zero s = None
objects_run holds next body (suc n) s =
    holds s then λ p.
    if p.0 then (body p.1 then λ r. behind_turn (found_run next (objects_run holds next body n)) r.0 r.1)
    else found_run next (objects_run holds next body n) p.1

-- A `switch` has come to no case yet, or looks for the one that has its value, or runs the statements of this one.
pub data Mode : Type 0 where
  Before : Mode
  Seeks : Mode
  Within : Mode

abbrev pub Walk : Type 0
Walk = Mode → Store → Option (Mode × Outcome × Store)

-- Statements are passed over while a case is looked for.
abbrev pub own_walk : Effect → Walk
own_walk e Before s = e s then λ r. Some (Before, r.0, r.1)
own_walk e Seeks s = Some (Seeks, Done, s)
own_walk e Within s = e s then λ r. Some (Within, r.0, r.1)

-- Behind the statements of a case the next one ends the `switch`.
abbrev pub case_by : Bool → Store → Option (Mode × Outcome × Store)
case_by b s = Some (if b then Within else Seeks, Done, s)

abbrev pub case_tested : Truth → Store → Option (Mode × Outcome × Store)
case_tested holds s = holds s then λ p. case_by p.0 p.1

abbrev pub case_walk : Truth → Walk
case_walk holds Before s = case_tested holds s
case_walk holds Seeks s = case_tested holds s
case_walk holds Within s = Some (Within, Broke, s)

abbrev pub walked_on : Walk → Mode → Outcome → Store → Option (Mode × Outcome × Store)
walked_on next m Done s = next m s
walked_on next m Broke s = Some (m, Broke, s)
walked_on next m Continued s = Some (m, Continued, s)
walked_on next m (Returned n) s = Some (m, Returned n, s)

abbrev pub both_walk : Walk → Walk → Walk
both_walk first second m s = first m s then λ r. walked_on second r.0 r.1 r.2

abbrev pub behind_switch : Outcome → Effect
behind_switch Done s = Some (Done, s)
behind_switch Broke s = Some (Done, s)
behind_switch Continued s = Some (Continued, s)
behind_switch (Returned n) s = Some (Returned n, s)

abbrev pub walk_run : Walk → Effect
walk_run cases s = cases Before s then λ r. behind_switch r.1 r.2

-- The effect of a statement, and its walk among the cases of a `switch`
pub record Ways : Type 0 where
  pub effect : Effect
  pub walk : Walk

abbrev pub alone_way : Effect → Ways
alone_way e = record { effect = e; walk = own_walk e }

abbrev pub ways : ℕ → Control → Ways
ways n (Does e) = alone_way e
ways n (Both first second) = record {
  effect = both_run (ways n first).effect (ways n second).effect;
  walk = both_walk (ways n first).walk (ways n second).walk;
}
ways n (IfTrue holds body) = alone_way (if_run holds (ways n body).effect)
ways n (Either holds body other) = alone_way (else_run holds (ways n body).effect (ways n other).effect)
ways n (WhileTrue holds body) = alone_way (while_run holds (ways n body).effect n)
ways n (DoUntil body holds) = alone_way (until_run (ways n body).effect holds n)
ways n (ForEach start holds step body) = alone_way (λ s. start s then λ t. for_run holds step (ways n body).effect n t)
ways n (Objects first holds next body) = alone_way (found_run first (objects_run holds next (ways n body).effect n))
ways n (ByCases keeps cases) = alone_way (λ s. keeps s then λ t. walk_run (ways n cases).walk t)
ways n (CaseOf holds) = record { effect = λ s. None; walk = case_walk holds }

abbrev pub effect : ℕ → Control → Effect
effect n p = (ways n p).effect
