-- Behind a token the same happens by conditionals and by the sides that stand for them: where a file is entered or left, where another
-- directive asks for something, and where a directive ends.
use Rattle.std.proofs.Common.{◌≡◌, ℕ, ◌⊎◌, inl, inr, List, [], ◌∷◌, ◌&&◌, Bool, true, false, Option, None, refl, sym, ◌∙◌, ap, map}
use Rattle.std.proofs.Common.{append-nil, subst, true≢false, if◌then◌else◌}
use Rattle.inf_scanner.specs.declared.tokens.Place.{Place}
use Rattle.inf_devices.specs.Files.{Sources}
use Rattle.inf_sources.specs.{declared.open_file.Conditional.Conditional, declared.open_files.Included.Included}
use Rattle.inf_sources.specs.Inclusions.{Inclusion, Opens, OpensNone, Waiting, inclusion, with_opened}
use Rattle.inf_unit.specs.Directives.{Characters, End, Include, Nothing, Request}
use Rattle.inf_unit.specs.Messages.{Reported}
use Rattle.inf_conditionals.specs.{Ends.file_ended, Ends.piece_ended as conditions_ended, Ends.with_among, Judging.is_none_pending}
use Rattle.inf_conditionals.specs.{Open.Conditions, declared.open.LeftOut.LeftOut, declared.pending.Pending.Pending}
use Rattle.inf_conditional_sides.specs.{Ends.inner_only, Rests.AreSeated}
use Rattle.inf_conditional_sides.specs.Judged.{Agree, FewIn, StandFor, is_settled, is_settled_by, open_sides, pendings}
use Rattle.inf_conditional_sides.specs.Sides.{Side, Text, has_none, outer_sides, side_of}
use Rattle.inf_conditional_sides.proofs.{Running.kept_levels, Same.sides_are_judged}
use Rattle.inf_conditional_sides.proofs.Ending.{between_of, ends_are_told_by_sides, inner_of}
use Rattle.inf_reader.specs.{Handing.is_between, Reading.is_mode_ended}
use Rattle.inf_session.specs.{Choices.Choices, Choices.most_quoted, Session.State as TurnState, Session.answered as turn_answered}
use Rattle.inf_session.specs.{Session.asked_nothing as turn_asked_nothing, Session.file_closed as turn_closed}
use Rattle.inf_session.specs.{Session.included_by as turn_included_by, Session.is_resting as turn_resting, Session.left as turn_left}
use Rattle.inf_session.specs.{Session.left_by as turn_left_by, Session.piece_closed as turn_piece_closed, Session.rested as turn_rested}
use Rattle.inf_program.specs.BySides.{with_conditions}
use Rattle.inf_program.specs.definition.States.{State, answered, asked_nothing, conditionals_of, file_closed, has_ended, included_by}
use Rattle.inf_program.specs.definition.States.{is_resting, left, left_by, piece_closed, rested}
use Rattle.inf_program.proofs.Soundness.{mode_ended}

-- The sides of a state stand for conditionals, which are settled.
pub record Matches (c : Conditions) (s : State) : Type 0 where
  pub agree : Agree c s.sides
  pub declared : c.declared ≡ s.declared
  pub none_said : c.said ≡ None
  pub settled : is_settled c ≡ true
  pub seated : AreSeated (is_between s.reading) c.pending
  pub levels : FewIn c.left_out

-- conditionals and sides agree, where a directive may still end
pub record Ready (c : Conditions) (s : State) : Type 0 where
  pub agree : Agree c s.sides
  pub declared : c.declared ≡ s.declared
  pub none_said : c.said ≡ None
  pub settled : (is_settled c ≡ true) ⊎ (is_resting s ≡ true)
  pub seated : AreSeated (is_between s.reading) c.pending
  pub levels : FewIn c.left_out

-- A state of turns is one by sides, with conditionals that may be ready.
pub record Behind (q : ℕ) (t : TurnState) (s : State) (IsReady : Conditions → Type 0) : Type 0 where
  pub now : Conditions
  pub same : t ≡ with_conditions now q s
  pub most : now.most_tokens ≡ s.most_tokens
  pub ready : has_ended s ≡ false → IsReady now

-- Lemmas about the end of a directive

pub none_alike : (texts : List Text) → is_none_pending (pendings texts) ≡ has_none texts
none_alike [] = refl
none_alike (x ∷ texts) = refl

resting_alike : (c : Conditions) (q : ℕ) (s : State) → Agree c s.sides → turn_resting (with_conditions c q s) ≡ is_resting s
resting_alike c q s a = ap (λ b. is_between s.reading && b)
    (ap (λ (pending : List Pending). is_none_pending pending) a.pending ∙ none_alike s.sides.texts)

settled_of : (c : Conditions) (s : State) → (is_settled c ≡ true) ⊎ (is_resting s ≡ true) → is_resting s ≡ false → is_settled c ≡ true
settled_of c s (inl settled) goes = settled
settled_of c s (inr rests) goes = absurd (true≢false (sym rests ∙ goes))

abbrev Rested : ℕ → Conditions → State → Type 0
Rested q c s = Behind q (turn_rested (with_conditions c q s)) (rested s) (λ now. Matches now (rested s))

-- where reading ended, nothing happens
ended_rested : (q : ℕ) (c : Conditions) (s : State) → c.most_tokens ≡ s.most_tokens → has_ended s ≡ true → Rested q c s
ended_rested q c s most e =
    let t : TurnState = with_conditions c q s in
    let same : rested s ≡ s = ap (λ b. if b then s else if is_resting s then piece_closed s else s) e in
    record {
      now = c;
      same = ap (λ b. if b then t else if turn_resting t then turn_piece_closed t else t) e ∙ ap (with_conditions c q) (sym same);
      most = most ∙ ap (λ (x : State). x.most_tokens) (sym same);
      ready = λ going. absurd (true≢false (sym (ap has_ended same ∙ e) ∙ going));
    }

going_rested : (q : ℕ) (c : Conditions) (s : State) → c.most_tokens ≡ s.most_tokens → has_ended s ≡ false → Ready c s → (b : Bool)
    → is_resting s ≡ b → Rested q c s
going_rested q c s most going r true rests =
    let t : TurnState = with_conditions c q s in
    let declared : ℕ = s.work.output.names.declared in
    let same : rested s ≡ piece_closed s =
    ap (λ b. if b then s else if is_resting s then piece_closed s else s) going ∙ ap (λ b. if b then piece_closed s else s) rests in
    let closed : turn_rested t ≡ turn_piece_closed t = ap (λ b. if b then t else if turn_resting t then turn_piece_closed t else t) going
    ∙ ap (λ b. if b then turn_piece_closed t else t) (resting_alike c q s r.agree ∙ rests) in
    let told : turn_piece_closed t ≡ with_conditions (conditions_ended declared c) q (piece_closed s) =
    ap (λ (report : Reported). with_conditions (conditions_ended declared c) q
    (record (piece_closed s) { work = record s.work { report = report } }))
    (ends_are_told_by_sides.of_directives s.nesting.names c s.sides s.work.report r.agree) in
    let pieces = sides_are_judged.pieces declared c s.sides r.agree in
    record {
      now = conditions_ended declared c;
      same = closed ∙ (told ∙ ap (with_conditions (conditions_ended declared c) q) (sym same));
      most = most ∙ ap (λ (x : State). x.most_tokens) (sym same);
      ready = λ on. subst (λ (x : State). Matches (conditions_ended declared c) x) (sym same) (record {
        agree = pieces.0;
        declared = refl;
        none_said = r.none_said;
        settled = pieces.1;
        seated = r.seated;
        levels = kept_levels c.left_out r.levels;
      });
    }
going_rested q c s most going r false goes =
    let t : TurnState = with_conditions c q s in
    let same : rested s ≡ s =
    ap (λ b. if b then s else if is_resting s then piece_closed s else s) going ∙ ap (λ b. if b then piece_closed s else s) goes in
    record {
      now = c;
      same = ap (λ b. if b then t else if turn_resting t then turn_piece_closed t else t) going
          ∙ (ap (λ b. if b then turn_piece_closed t else t) (resting_alike c q s r.agree ∙ goes)
          ∙ ap (with_conditions c q) (sym same));
      most = most ∙ ap (λ (x : State). x.most_tokens) (sym same);
      ready = λ on. subst (λ (x : State). Matches c x) (sym same) (record {
        agree = r.agree;
        declared = r.declared;
        none_said = r.none_said;
        settled = settled_of c s r.settled goes;
        seated = r.seated;
        levels = r.levels;
      });
    }

rested_by : (q : ℕ) (c : Conditions) (s : State) → c.most_tokens ≡ s.most_tokens → (has_ended s ≡ false → Ready c s) → (b : Bool)
    → has_ended s ≡ b → Rested q c s
rested_by q c s most ready true e = ended_rested q c s most e
rested_by q c s most ready false going = going_rested q c s most going (ready going) (is_resting s) refl

-- the end of a directive behind what it asks for
pub then_rested : (q : ℕ) (t : TurnState) (s : State) → Behind q t s (λ now. Ready now s)
    → Behind q (turn_rested t) (rested s) (λ now. Matches now (rested s))
then_rested q t s b = subst (λ (x : TurnState). Behind q (turn_rested x) (rested s) (λ now. Matches now (rested s))) (sym b.same)
    (rested_by q b.now s b.most b.ready (has_ended s) refl)

-- Lemmas for the case that no directive is being read, and no side is left out

pub record IsOpen (c : Conditions) (s : State) : Type 0 where
  pub agree : Agree c s.sides
  pub declared : c.declared ≡ s.declared
  pub none_said : c.said ≡ None
  pub none : c.pending ≡ []
  pub stay : c.left_out ≡ None

pub open_ready : (c : Conditions) (s : State) → IsOpen c s → Ready c s
open_ready c s i = record {
  agree = i.agree;
  declared = i.declared;
  none_said = i.none_said;
  settled = inl (ap (λ (left_out : Option LeftOut). is_settled_by left_out c.inner) i.stay);
  seated = subst (λ (pending : List Pending). AreSeated (is_between s.reading) pending) (sym i.none) tt;
  levels = subst (λ (left_out : Option LeftOut). FewIn left_out) (sym i.stay) tt;
}

-- where other conditionals are open, conditionals and sides agree as before
open_with : (c : Conditions) (s : State) (inner among : List Conditional) (sides : List Side) → IsOpen c s → sides ≡ open_sides inner among
    → Agree (record c { inner = inner; among = among }) (record s.sides { sides = sides })
open_with c s inner among sides i e = record {
  pending = i.agree.pending;
  conditions = i.agree.conditions;
  sign = i.agree.sign;
  sides = subst (λ (left_out : Option LeftOut). StandFor left_out inner among sides) (sym i.stay) e;
  fronts = i.agree.fronts;
}

all_open : (c : Conditions) (s : State) → IsOpen c s → s.sides.sides ≡ open_sides c.inner c.among
all_open c s i = subst (λ (left_out : Option LeftOut). StandFor left_out c.inner c.among s.sides.sides) i.stay i.agree.sides

-- Lemmas about files

entered : (inner among : List Conditional) → inner_only (open_sides inner among) ≡ open_sides inner []
entered inner among = inner_of inner among ∙ sym (append-nil (map (side_of true true) inner))

conditionals_back : (among : List Conditional)
    → map (λ (x : Side). record { place = x.place; is_second = x.is_second }) (outer_sides among) ≡ among
conditionals_back [] = refl
conditionals_back (x ∷ among) = ap (λ (xs : List Conditional). x ∷ xs) (conditionals_back among)

-- the conditionals of a file that waits for another
waiting_alike : (c : Conditions) (s : State) → IsOpen c s → conditionals_of s.sides.sides ≡ c.among
waiting_alike c s i = ap conditionals_of (all_open c s i)
    ∙ (ap (λ (sides : List Side). map (λ (x : Side). record { place = x.place; is_second = x.is_second }) sides) (between_of c.inner c.among)
    ∙ conditionals_back c.among)

abbrev Answered : ℕ → TurnState → State → Type 0
Answered q t s = Behind q t s (λ now. Ready now s)

opened_alike : (c : Conditions) (q : ℕ) (s : State) → c.most_tokens ≡ s.most_tokens → IsOpen c s → Answered q (with_conditions c q s) s
opened_alike c q s most i = record { now = c; same = refl; most = most; ready = λ on. open_ready c s i }

included_alike : (i : Inclusion) (sources : Sources) (o : Choices) (unit : Place) (text : List ℕ) (c : Conditions) (q : ℕ) (s : State)
    → c.most_tokens ≡ s.most_tokens → IsOpen c s
    → Answered q (turn_included_by sources o unit text i (with_conditions c q s)) (included_by sources o unit text i s)
included_alike (Opens name) sources o unit text c q s most i =
    let now : Conditions = with_among [] c in
    let x : State = included_by sources o unit text (Opens name) s in
    record {
      now = now;
      same = ap (λ (waiting : List Conditional). with_conditions now q (record x {
        nesting = with_opened s.nesting.cursor.set (most_quoted o) sources waiting s.work.is_system name s.nesting;
      })) (sym (waiting_alike c s i));
      most = most;
      ready = λ on. open_ready now x (record {
        agree = open_with c s c.inner [] (inner_only s.sides.sides) i (ap inner_only (all_open c s i) ∙ entered c.inner c.among);
        declared = i.declared;
        none_said = i.none_said;
        none = i.none;
        stay = i.stay;
      });
    }
included_alike (OpensNone Included.Entered) sources o unit text c q s most i = opened_alike c q s most i
included_alike (OpensNone Included.NotThere) sources o unit text c q s most i =
    opened_alike c q (included_by sources o unit text (OpensNone Included.NotThere) s) most
    (record { agree = i.agree; declared = i.declared; none_said = i.none_said; none = i.none; stay = i.stay })
included_alike (OpensNone Included.TooDeep) sources o unit text c q s most i =
    opened_alike c q (included_by sources o unit text (OpensNone Included.TooDeep) s) most
    (record { agree = i.agree; declared = i.declared; none_said = i.none_said; none = i.none; stay = i.stay })

answered_alike : (a : Request) (sources : Sources) (o : Choices) (c : Conditions) (q : ℕ) (s : State) → c.most_tokens ≡ s.most_tokens
    → IsOpen c s → Answered q (turn_answered a sources o (with_conditions c q s)) (answered a sources o s)
answered_alike (Include text unit) sources o c q s most i =
    included_alike (inclusion sources o.directories text s.nesting) sources o unit text c q s most i
answered_alike End sources o c q s most i = opened_alike c q (answered End sources o s) most
    (record { agree = i.agree; declared = i.declared; none_said = i.none_said; none = i.none; stay = i.stay })
answered_alike (Characters set) sources o c q s most i = opened_alike c q (answered (Characters set) sources o s) most
    (record { agree = i.agree; declared = i.declared; none_said = i.none_said; none = i.none; stay = i.stay })
answered_alike Nothing sources o c q s most i = opened_alike c q s most i

-- The file that ends is told of as sides tell.
closed_alike : (c : Conditions) (q : ℕ) (s : State) → IsOpen c s
    → turn_closed (with_conditions c q s) ≡ with_conditions (file_ended c) q (file_closed s)
closed_alike c q s i =
    ap (λ (report : Reported). with_conditions (file_ended c) q (record (file_closed s) { work = record s.work { report = report } }))
    (ends_are_told_by_sides.of_files s.nesting.names c s.sides s.work.report i.agree
    (ap (λ (left_out : Option LeftOut). is_settled_by left_out c.inner) i.stay))

left_alike : (waiting : List Waiting) (c : Conditions) (q : ℕ) (s : State) → c.most_tokens ≡ s.most_tokens → IsOpen c s
    → is_mode_ended s.reading.mode ≡ true
    → Answered q (turn_left_by waiting (with_conditions (file_ended c) q (file_closed s))) (left_by waiting (file_closed s))
left_alike [] c q s most i e = record {
  now = file_ended c;
  same = refl;
  most = most;
  ready = λ on. absurd (true≢false (sym (mode_ended (file_closed s) e) ∙ on));
}
left_alike (w ∷ waiting) c q s most i e =
    let now : Conditions = with_among w.conditionals (file_ended c) in
    let x : State = left_by (w ∷ waiting) (file_closed s) in
    record {
      now = now;
      same = refl;
      most = most;
      ready = λ on. open_ready now x (record {
        agree = open_with c s [] w.conditionals (outer_sides w.conditionals) i refl;
        declared = i.declared;
        none_said = i.none_said;
        none = i.none;
        stay = i.stay;
      });
    }

-- A token was handed on: a file is left, or a directive may ask for something.
pub handed_alike : (sources : Sources) (o : Choices) (c : Conditions) (q : ℕ) (s : State) → c.most_tokens ≡ s.most_tokens → IsOpen c s
    → (b : Bool) → is_mode_ended s.reading.mode ≡ b
    → let t = with_conditions c q s in
    Answered q (if b then turn_left t else turn_answered s.work.asked sources o (turn_asked_nothing t))
    (if b then left s else answered s.work.asked sources o (asked_nothing s))
handed_alike sources o c q s most i true e =
    subst (λ (t : TurnState). Answered q (turn_left_by s.nesting.waiting t) (left s)) (sym (closed_alike c q s i))
    (left_alike s.nesting.waiting c q s most i e)
handed_alike sources o c q s most i false e = answered_alike s.work.asked sources o c q (asked_nothing s) most
    (record { agree = i.agree; declared = i.declared; none_said = i.none_said; none = i.none; stay = i.stay })
