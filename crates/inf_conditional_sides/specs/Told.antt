-- The messages about conditions, by the sides that are open: a token is told of where all sides stay and the innermost directive that is
-- being read has a condition, which goes on with it or is whole.
use Rattle.std.specs.Prelude.{ℕ, max, List, [], ◌∷◌, ◌++◌, Bool, if◌then◌else◌, Option, Some, None}
use Rattle.inf_scanner.specs.{declared.tokens.Mark.Mark, declared.tokens.Place.Place}
use Rattle.inf_output.specs.Output.{Out}
use Rattle.inf_unit.specs.{Tokens.SourceToken, Tokens.is_end, Tokens.is_mark, Tokens.keyword, Units.outer_tokens}
use Rattle.inf_conditionals.specs.{Condition.Condition, Condition.is_whole, Condition.verdict_of, Said.Said, Said.told_by, Said.too_much}
use Rattle.inf_conditionals.specs.{Words.word_of, declared.words.ConditionalWord.ConditionalWord}
use Rattle.inf_conditional_sides.specs.Sides.{Directive, Ended, Sides, Sign, Text, all_stay, asked, condition_in, hash, sign_offered}

-- The message about a condition, if there is one, and the most tokens that a condition had so far.
pub record Told : Type 0 where
  pub said : Option Said
  pub most_tokens : ℕ

-- The tokens of a condition that goes on behind a token are counted; it may have `longest`, and in each other `most_nested` brackets.
abbrev pub went_on : ℕ → SourceToken → Condition → Told → Told
went_on longest t k before = record { said = too_much longest t k; most_tokens = max before.most_tokens (outer_tokens k.unit) }

-- A condition that is whole has an error, or is right.
abbrev pub told_behind : ℕ → ℕ → Out → Place → SourceToken → Option Condition → Told → Told
told_behind longest declared o place t None before = before
told_behind longest declared o place t (Some k) before =
    if is_whole k then record before { said = told_by place k (verdict_of declared o k).finding } else went_on longest t k before

-- one token more of a directive
abbrev pub told_in : ℕ → ℕ → Out → SourceToken → Text → Told → Told
told_in longest declared o t (Sign place) before = before
told_in longest declared o t (Ended place) before = before
told_in longest declared o t (Directive place is_inner w first others) before =
    told_behind longest declared o place t (condition_in w first (others ++ asked declared o t ∷ [])) before

abbrev pub told_first : ℕ → ℕ → Out → SourceToken → List Text → Told → Told
told_first longest declared o t [] before = before
told_first longest declared o t (x ∷ texts) before = told_in longest declared o t x before

abbrev pub token_told : ℕ → ℕ → Out → SourceToken → List Text → Told → Told
token_told longest declared o t texts before = if is_mark Mark.Hash t.kind then before else told_first longest declared o t texts before

-- A `#` that waited may be one of a condition, which goes on behind it.
abbrev pub behind_hash : ℕ → Place → Option Condition → Told → Told
behind_hash longest place None before = before
behind_hash longest place (Some k) before = went_on longest (hash place) k before

abbrev pub hash_in : ℕ → ℕ → Out → Place → Text → Told → Told
hash_in longest declared o place (Sign begins) before = before
hash_in longest declared o place (Ended begins) before = before
hash_in longest declared o place (Directive begins is_inner w first others) before =
    behind_hash longest place (condition_in w first (others ++ asked declared o (hash place) ∷ [])) before

abbrev pub hash_told : ℕ → ℕ → Out → Place → List Text → Told → Told
hash_told longest declared o place [] before = before
hash_told longest declared o place (x ∷ texts) before = hash_in longest declared o place x before

abbrev pub behind_sign_told : Option ConditionalWord → Place → ℕ → ℕ → Out → SourceToken → Sides → Told → Told
behind_sign_told (Some w) place longest declared o t s before = before
behind_sign_told None place longest declared o t s before =
    token_told longest declared o t (sign_offered s.texts declared o place (record s { sign = None })).now.texts
    (hash_told longest declared o place s.texts before)

abbrev pub kept_told : Option Place → ℕ → ℕ → Out → SourceToken → Sides → Told → Told
kept_told None longest declared o t s before = token_told longest declared o t s.texts before
kept_told (Some place) longest declared o t s before = behind_sign_told (word_of (keyword t)) place longest declared o t s before

-- In a side that is left out nothing is told, but at the end of the file it is left out no more.
abbrev pub left_told : ℕ → ℕ → Out → SourceToken → Sides → Told → Told
left_told longest declared o t s before = if is_end t.kind then token_told longest declared o t s.texts before else before

-- any token; among tokens that are passed over behind a bad one nothing is told
abbrev pub told_of : Bool → ℕ → ℕ → Out → SourceToken → Sides → Told → Told
told_of is_quiet longest declared o t s before =
    if is_quiet then before else
    if all_stay s.sides then kept_told s.sign longest declared o t s before else left_told longest declared o t s before
