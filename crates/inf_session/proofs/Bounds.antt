-- The amounts that the settings bound stay under them.
use Rattle.std.proofs.Common.{nat_lt, is_none, ◌||◌, ◌≡◌, ℕ, ◌≤◌, Bool, true, false, cond, List, length, Option, Some, None}
use Rattle.std.proofs.Common.{refl, sym, ap, subst, ◌∙◌, arith}
use Rattle.std.proofs.lemmas.Bool.{ltb-false}
use Rattle.inf_sources.specs.Quoted.{is_quoted_kind}
use Rattle.inf_scanner.specs.{declared.tokens.BadToken.BadToken, declared.tokens.TokenKind.TokenKind}
use Rattle.inf_conditionals.specs.{declared.filtered.Filtered.Filtered, declared.filtered.Site.Site}
use Rattle.inf_letters.specs.Letters.{warns}
use Rattle.inf_settings.specs.declared.setting.Setting.{Setting}
use Rattle.inf_settings.specs.Settings.{number_of}
use Rattle.inf_unit.proofs.Cases.{of_both}
use Rattle.inf_unit.specs.{Messages.FileNames, Messages.none_reported, Messages.with_full, Tokens.SourceToken}
use Rattle.inf_reader.specs.{Reading.ReaderState, Reading.has_ended_at, Standing.standing, declared.progress.Progress.Progress}
use Rattle.inf_session.specs.{Choices.Choices, Choices.chosen, Choices.most_quoted, Session.begun_with, Session.tables_full}
use Rattle.inf_session.specs.{Taking.quoted_behind, Taking.quoted_bytes, Taking.quoted_of_kind}
use Rattle.inf_session.specs.{declared.session.Session.Session, declared.setup.Setup.Setup}
use Rattle.inf_session.specs.Standing.{HasObjects, IsBounded, ended}
use Rattle.inf_ending.specs.Ending.{first_place}

-- Lemmas about the longest quoted token

kind_within : (k : TokenKind) (bytes : List ℕ) (most : ℕ) → (is_quoted_kind k ≡ true → length bytes ≤ most) → quoted_of_kind k bytes ≤ most
kind_within TokenKind.Name bytes most few = omega arith
kind_within (TokenKind.Number n) bytes most few = omega arith
kind_within TokenKind.Text bytes most few = few refl
kind_within (TokenKind.Char c) bytes most few = few refl
kind_within (TokenKind.Word w) bytes most few = few refl
kind_within (TokenKind.Mark m) bytes most few = omega arith
kind_within (TokenKind.Bad BadToken.Unfit) bytes most few = omega arith
kind_within (TokenKind.Bad BadToken.Unclosed) bytes most few = few refl
kind_within (TokenKind.Bad BadToken.EmptyQuote) bytes most few = few refl
kind_within (TokenKind.Bad BadToken.Number) bytes most few = omega arith
kind_within (TokenKind.Bad BadToken.LongName) bytes most few = omega arith
kind_within (TokenKind.Bad BadToken.UnknownEscape) bytes most few = few refl
kind_within (TokenKind.Bad BadToken.NoZscii) bytes most few = few refl
kind_within (TokenKind.Bad BadToken.BadCode) bytes most few = few refl
kind_within (TokenKind.Bad BadToken.TooLong) bytes most few = few refl
kind_within TokenKind.End bytes most few = omega arith

pub quoted_within : (site : Site) (j : Filtered) (t : SourceToken) (quoted most : ℕ) →
    (is_quoted_kind t.kind ≡ true → length t.bytes ≤ most) → quoted ≤ most → quoted_behind site j t quoted ≤ most
quoted_within site j t quoted most few before =
    let longer = cond (nat_lt quoted (quoted_bytes t)) (quoted_bytes t) quoted in
    of_both (λ n. n ≤ most) (site.is_quiet || is_none j.token) quoted longer (λ _. before)
    (λ _. of_both (λ n. n ≤ most) (nat_lt quoted (quoted_bytes t)) (quoted_bytes t) quoted (λ _. kind_within t.kind t.bytes most few)
    (λ _. before))

-- Lemmas about the bounds of the settings

left_false : (a b : Bool) → (a || b) ≡ false → a ≡ false
left_false true b e = e
left_false false b e = refl

right_false : (a b : Bool) → (a || b) ≡ false → b ≡ false
right_false true b e = let never : true ≡ false = e in cc
right_false false b e = e

-- the bounds of a session hold on, where something was still to be read
pub bounded_still : {B : Type 0} (s t : Session B) → t.setup ≡ s.setup
    → (s.quoted ≤ most_quoted (chosen s.setup) → t.quoted ≤ most_quoted (chosen s.setup)) → ended s ≡ false → IsBounded s → IsBounded t
bounded_still s t setup longest going b = (
  subst (λ (p : Setup). t.quoted ≤ most_quoted (chosen p)) (sym setup) (longest b.0),
  λ _. subst (λ (p : Setup). HasObjects (chosen p).settings) (sym setup)
      (b.1 (left_false _ _ (right_false s.is_over (has_ended_at (standing s.progress)) going))),
)

-- Lemmas about the state before the first token

none_told : (full : Option Setting) (names : FileNames) (warns : Bool)
    → (with_full names first_place full (none_reported warns)).counts.is_over ≡ false → full ≡ None
none_told (Some limit) names warns going = let never : true ≡ false = going in cc
none_told None names warns going = refl

none_then : (b : Bool) (limit : Setting) (others : Option Setting) → cond b (Some limit) others ≡ None → (b ≡ false) × (others ≡ None)
none_then true limit others e = let never : Some limit ≡ None = e in cc
none_then false limit others e = (refl, e)

first_fits : (o : Choices) (names : FileNames) → (begun_with o names).work.report.counts.is_over ≡ false → HasObjects o.settings
first_fits o names going =
    let objects = number_of Setting.Objects o.settings in let bytes = number_of Setting.PropertyTables o.settings in
    let refs = number_of Setting.References o.settings in let low = number_of Setting.LowStrings o.settings in
    let none = none_told (tables_full o.settings) names (warns o.letters) going in
    let behind_low = cond (nat_lt refs 4) (Some Setting.References) None in
    let behind_bytes = cond (nat_lt low 2) (Some Setting.LowStrings) behind_low in
    let first = none_then (nat_lt objects 4) Setting.Objects (cond (nat_lt bytes 30) (Some Setting.PropertyTables) behind_bytes) none in
    let second = none_then (nat_lt bytes 30) Setting.PropertyTables behind_bytes first.1 in
    let third = none_then (nat_lt low 2) Setting.LowStrings behind_low second.1 in
    let fourth = none_then (nat_lt refs 4) Setting.References None third.1 in
    (ltb-false objects 4 first.0, ltb-false bytes 30 second.0, ltb-false low 2 third.0, ltb-false refs 4 fourth.0)

pub bounded_first : {B : Type 0} (p : Setup) (progress : Progress B) (names : FileNames) → standing progress ≡ begun_with (chosen p) names
    → (0 ≤ most_quoted (chosen p)) × ((standing progress).work.report.counts.is_over ≡ false → HasObjects (chosen p).settings)
bounded_first p progress names begun = (
  omega arith,
  λ going. first_fits (chosen p) names (ap (λ (s : ReaderState). s.work.report.counts.is_over) (sym begun) ∙ going),
)
