-- Laws that are read off the definition of sides: tokens that are kept, and directives without a conditional.
use Rattle.std.proofs.Common.{◌≡◌, [], ◌∷◌, Bool, true, false, not, Option, None, ◌∙◌, ap, ℕ, List, refl, if◌then◌else◌, unwrap_or}
use Rattle.inf_scanner.specs.declared.tokens.Place.{Place}
use Rattle.inf_output.specs.Output.{Out}
use Rattle.inf_unit.specs.Tokens.{SourceToken, is_end, keyword}
use Rattle.inf_conditionals.specs.{Condition.Condition, Words.word_of, declared.words.ConditionalWord.ConditionalWord}
use Rattle.inf_conditional_sides.specs.Sides.{Ends, Kept, Lone, Sides, at_end, at_front, closed, giving, held, kept_step, left_step, offered}
use Rattle.inf_conditional_sides.specs.Sides.{passed_over, turned}
use Rattle.inf_conditional_sides.specs.Sides.{Side, all_stay, condition_holds, sides_behind, step, word_passed}
use Rattle.inf_conditional_sides.specs.Keeping.{DirectivesChooseSides, SidesKeepTokens, with_sides}

pub sides_keep_tokens : SidesKeepTokens
sides_keep_tokens = record {
  cut = λ is_between declared o t s out no_end.
      let ended : Sides = record s { sides = at_end s.sides; sign = None } in
      ap (λ (b : Bool). (if b then kept_step s.sign is_between declared o t s else left_step declared o t s).given) out
      ∙ ap (λ (b : Bool). (if b then offered false declared o t ended else giving (passed_over (word_of (keyword t)) t s) []).given) no_end;
  within = λ declared o t sides stay no_hash.
      let s : Sides = with_sides sides in
      ap (λ (b : Bool). if b then offered false declared o t s else left_step declared o t s) stay
      ∙ ap (λ (b : Bool). if b then giving (held false t.place s) [] else giving s (Kept t ∷ [])) no_hash;
  front = λ declared o t sides stay no_hash no_word.
      let s : Sides = with_sides sides in
      ap (λ (b : Bool). if b then offered true declared o t s else left_step declared o t s) stay
      ∙ (ap (λ (b : Bool). if b then giving (held true t.place s) [] else at_front (word_of (keyword t)) t s) no_hash
      ∙ ap (λ (w : Option ConditionalWord). at_front w t s) no_word);
  turned = λ x first. ap (λ (b : Bool). if b then x else record x { is_second = true; stays = not x.stays }) first;
  lone_turn = λ place s has_none.
      ap (λ (b : Bool). if b then giving (record s { sides = turned s.sides }) (Ends place ∷ []) else giving s (Lone place ∷ Ends place ∷ []))
      has_none;
  lone_end = λ place s has_none.
      ap (λ (b : Bool). if b then giving (record s { sides = closed s.sides }) (Ends place ∷ []) else giving s (Lone place ∷ Ends place ∷ []))
      has_none;
}

-- Lemmas about words in a side that is left out

-- a token of a side that is left out is passed over
passes : (is_between : Bool) (declared : ℕ) (o : Out) (t : SourceToken) (s : Sides) → all_stay s.sides ≡ false → is_end t.kind ≡ false
    → (step is_between declared o t s).now.sides ≡ (passed_over (word_of (keyword t)) t s).sides
passes is_between declared o t s out no_end =
    let ended : Sides = record s { sides = at_end s.sides; sign = None } in
    ap (λ (b : Bool). (if b then kept_step s.sign is_between declared o t s else left_step declared o t s).now.sides) out
    ∙ ap (λ (b : Bool). (if b then offered false declared o t ended else giving (passed_over (word_of (keyword t)) t s) []).now.sides) no_end

word_acts : (b : Bool) (place : Place) (sides : List Side) (s : Sides) → (word_passed b place sides s).sides ≡ sides
word_acts true place sides s = refl
word_acts false place sides s = refl

pub directives_choose_sides : DirectivesChooseSides
directives_choose_sides = record {
  ifdef = λ declared o first name others. refl;
  ifndef = λ declared o first name others. refl;
  iftrue = λ declared o first others k is. ap (condition_holds declared o) is;
  iffalse = λ declared o first others k is. ap (λ (c : Option Condition). not (condition_holds declared o c)) is;
  words = λ is_between declared o t w s out no_end is.
      let place : Place = unwrap_or s.sign t.place in
      passes is_between declared o t s out no_end
      ∙ (ap (λ (x : Option ConditionalWord). (passed_over x t s).sides) is
      ∙ word_acts (all_stay (sides_behind w place s.sides)) place (sides_behind w place s.sides) s);
  others = λ is_between declared o t s out no_end none.
      passes is_between declared o t s out no_end ∙ ap (λ (x : Option ConditionalWord). (passed_over x t s).sides) none;
}
