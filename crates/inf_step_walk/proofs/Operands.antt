-- Names, texts, words and actions that a unit uses: its operands stand then, and all that stood before.
use Rattle.std.proofs.Common.{List, None, Option, Some, [], arith, length, refl, ℕ, ◌<◌, ◌≡◌}
use Rattle.inf_characters.specs.declared.characters.CharSet.{CharSet}
use Rattle.inf_area.specs.declared.targets.Target.{Target}
use Rattle.inf_expressions.specs.declared.operators.Operand.{Operand}
use Rattle.inf_scanner.specs.declared.tokens.Place.{Place}
use Rattle.inf_gathering.specs.declared.gathering.Leaf.{Leaf}
use Rattle.inf_settings.specs.{Bounds.Limits, Bounds.unbounded, declared.setting.Setting.Setting}
use Rattle.inf_verbs.specs.{Routines.action_fault, declared.routines.ActionFault.ActionFault}
use Rattle.inf_names.specs.{Locals.Local, Symbols.declare_fault, declared.meanings.Meaning.Meaning}
use Rattle.inf_names.specs.{declared.symbols.DeclareFault.DeclareFault}
use Rattle.inf_output.specs.Output.{Out, declared}
use Rattle.inf_output.specs.Actions.{action_of, faked, faked_by, first_seen, key_of, next_fake, numbered_by, one_fake, seen_by}
use Rattle.inf_unit.specs.Tokens.{SourceToken}
use Rattle.inf_operands.specs.{Operands.Settled, Operands.leaf_added, Operands.settled, Texts.text_packed}
use Rattle.inf_code_walk.specs.Made.{LeafMeets}
use Rattle.inf_word_laws.proofs.Numbering.{Adds, Appears, Both, IsBound, Looks, Names, Numbers, Packs, Still, Used, action_used, added_used}
use Rattle.inf_word_laws.proofs.Numbering.{all_settled, settled_used}
use Rattle.inf_step_walk.specs.Standing.{Before, MeaningStands}
use Rattle.inf_step_walk.specs.Walking.{Declares, Follows, Grown, Passes, Premises, Refers, Stays, Stood, Tables, TablesHold, Texts, Uses}
use Rattle.inf_step_walk.specs.Walking.{free, rest}
use Rattle.inf_step_walk.proofs.{Lists.routine_among, Outputs.word_there, Pieces.before, Premises.OperandsMeet}

module _ {limits : Limits} {Q : Premises} where
  -- the tables and what is behind them stay as they are
  pub other : {o v : Out} → rest v ≡ rest o → ((u : Out) → TablesHold u o → TablesHold u v) → Grown limits Q o v
  other same f = Tables Stays same (λ u b e h. f u h)

  -- a name is declared with a meaning that refers to nothing
  pub declares : (name : List ℕ) (place : Place) (m : Meaning) {o : Out} → ((u : Out) → MeaningStands u m)
      → Grown limits Q o (declared limits name place m o)
  declares name place m stands = Declares name place m (λ free u e h. stands u) Stays

  -- what a unit uses
  pub used_grown : {o v : Out} → Used limits o v → Grown limits Q o v
  used_grown Still = Stays
  used_grown (Both f g) = Follows (used_grown f) (used_grown g)
  used_grown (Packs {o}) = other {o = o} {v = text_packed o} refl (λ u h. h)
  used_grown (Adds text) = Texts text
  used_grown (Looks text how is_plural) = Uses text how is_plural
  used_grown (Names name place) = Refers name place
  used_grown (Appears {o} key place) = go (declare_fault unbounded key o.seen)
    where
      go : (fault : Option (DeclareFault Place)) → Grown limits Q o (seen_by fault key place o)
      go None = other refl (λ u h. h)
      go (Some fault) = Stays
  used_grown (Numbers {o} routine within) = go (action_fault limits routine o.tables.actions)
    where
      longer : (n : ℕ) (o u : Out) → n < length o.names.names → Before u o → n < length u.names.names
      longer n o u h e = omega (arith, h, e.few_names)

      go : (fault : Option ActionFault) → Grown limits Q o (numbered_by limits fault routine o).0
      go None = Tables {p = (numbered_by limits None routine o).0} Stays refl (λ u b e h. (
        record {
          of_arrays = h.0.of_arrays;
          of_globals = h.0.of_globals;
          of_verbs = h.0.of_verbs;
          of_actions = routine_among u routine o.tables.actions.routines (longer routine o u within b) h.0.of_actions;
          of_parsing = h.0.of_parsing;
        },
        h.1,
      ))
      go (Some fault) = Passes Setting.Actions

  pub action_grows : (name : List ℕ) (place : Place) (o : Out) → Grown limits Q o (action_of limits name place o).0
  action_grows name place o = used_grown (action_used name place o)

  pub faked_grows : (name : List ℕ) (place : Place) (o : Out) → Grown limits Q o (faked limits name place o).0
  faked_grows name place o = go (first_seen (key_of name) o)
    where
      go : (first : Option Place) → Grown limits Q o (faked_by limits first (key_of name) place o).0
      go (Some first) = Stays
      go None = Follows {p = one_fake o} (other refl (λ u h. h)) (declares (key_of name) place (Meaning.FakeAction (next_fake o)) (λ u. tt))

  pub added_grows : (set : CharSet) (tokens : List SourceToken) (leaves : List Leaf) (o : Out)
      → Grown limits Q o (leaf_added limits set tokens leaves o)
  added_grows set tokens leaves o = used_grown (added_used set tokens leaves o)

  pub settled_grows : (set : CharSet) (locals : List Local) (tokens : List SourceToken) (leaves : List Leaf) (s : Settled)
      → Grown limits Q s.out (settled limits set locals tokens leaves s).out
  settled_grows set locals tokens leaves s = used_grown (settled_used set locals tokens leaves s)

-- The operands of a unit refer to targets that stand in each output before which the one behind their use comes.

stood_stays : {limits : Limits} (x : Operand) (o v : Out) → Used limits o v → LeafMeets (Stood o) x → LeafMeets (Stood v) x
stood_stays {limits} (Operand.Later t) o v g h = λ u e. h u (before {limits = limits} {Q = free} (used_grown g) u e)
stood_stays x o v g h = tt

bound_stood : (x : Operand) (v : Out) → IsBound x v → LeafMeets (Stood v) x
bound_stood (Operand.Later (Target.Name number)) v h = λ u e. omega (arith, h, e.few_names)
bound_stood (Operand.Later (Target.Word text)) v h = λ u e. e.has_words text (word_there text v h e.complete)
bound_stood (Operand.Later (Target.Part area part)) v h = absurd h
bound_stood (Operand.Later (Target.Place area place)) v h = λ u e. tt
bound_stood (Operand.Later (Target.System constant)) v h = λ u e. tt
bound_stood x v h = tt

pub settled_stood : (limits : Limits) (set : CharSet) (locals : List Local) (tokens : List SourceToken) (leaves : List Leaf) (o : Out)
    → let s = settled limits set locals tokens leaves (record { out = o; operands = [] }) in OperandsMeet (Stood s.out) s.operands
settled_stood limits set locals tokens leaves o =
    all_settled {limits = limits} (λ x v. LeafMeets (Stood v) x) stood_stays bound_stood set locals tokens leaves
    (record { out = o; operands = [] }) tt
