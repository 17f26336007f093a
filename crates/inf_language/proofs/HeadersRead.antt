-- The locals of a header, name by name: of a unit by itself, and in a compilation.
use Rattle.std.proofs.Common.{◌≡◌, ◌-◌, List, [], ◌∷◌, ◌++◌, length, take, false, Some, refl, ◌∙◌, ap, arith, if◌then◌else◌, slice_get}
use Rattle.std.proofs.{Math.Seq.take-append_seam, lemmas.List.length-append}
use Rattle.inf_settings.specs.Bounds.{Limits}
use Rattle.inf_scanner.specs.declared.tokens.TokenKind.{TokenKind}
use Rattle.inf_syntax.specs.declared.actions.Action.{Action}
use Rattle.inf_names.specs.Locals.{with_local}
use Rattle.inf_unit.specs.Tokens.{SourceToken, name_of_kind}
use Rattle.inf_unit.specs.Units.{Unit, acted, depth_behind, headed_by, headed_more, name_by, taken}
use Rattle.inf_expression_laws.specs.Gathered.{read_by}
use Rattle.inf_statement_laws.specs.Readings.{Seen}
use Rattle.inf_language.specs.{HeaderNames.HeadersNoteTheirNames, HeaderNames.local_events, Texts.tokens_of, Units.AllGather}
use Rattle.inf_language.specs.Headers.{HeadersHaveTheirLocals, as_name, locals_read}
use Rattle.inf_language.proofs.UnitsAlone.{units_are_read_alone}

-- Lemmas about the last member of a list

got_behind : {A : Type 0} (xs : List A) (x : A) → slice_get (xs ++ x ∷ []) (length xs) ≡ Some x
got_behind [] x = refl
got_behind (y ∷ xs) x = got_behind xs x

last_got : {A : Type 0} (xs : List A) (x : A) → slice_get (xs ++ x ∷ []) (length (xs ++ x ∷ []) - 1) ≡ Some x
last_got xs x = ap (slice_get (xs ++ x ∷ [])) (let count = length-append xs (x ∷ []) in omega (arith, count)) ∙ got_behind xs x

all_but_last : {A : Type 0} (xs : List A) (x : A) → take (length (xs ++ x ∷ []) - 1) (xs ++ x ∷ []) ≡ xs
all_but_last xs x =
    ap (λ n. take n (xs ++ x ∷ [])) (let count = length-append xs (x ∷ []) in omega (arith, count)) ∙ take-append_seam xs (x ∷ [])

-- A name is taken, and then noted as a local.

name_taken : (t : SourceToken) (u : Unit) → u.is_over ≡ false → t.kind ≡ TokenKind.Name
    → taken t u ≡ record u { tokens = u.tokens ++ t ∷ [] }
name_taken t u goes_on is_name =
    ap (λ b. if b then record u { is_over = false } else record u { tokens = u.tokens ++ t ∷ []; depth = depth_behind t.kind u.depth })
    goes_on ∙ ap (λ k. record u { tokens = u.tokens ++ t ∷ []; depth = depth_behind k u.depth }) is_name

local_read : (t : SourceToken) (u : Unit) → u.is_over ≡ false → t.kind ≡ TokenKind.Name
    → acted Action.Local (taken t u) ≡ record u { headed = with_local (as_name t) u.headed }
local_read t u goes_on is_name = ap headed_more (name_taken t u goes_on is_name) ∙ (ap (λ tokens. record u {
  headed = headed_by (name_by (slice_get (u.tokens ++ t ∷ []) (length (u.tokens ++ t ∷ []) - 1))) u.headed;
  tokens = tokens;
}) (all_but_last u.tokens t) ∙ (ap (λ last. record u { headed = headed_by (name_by last) u.headed }) (last_got u.tokens t)
    ∙ ap (λ k. record u { headed = headed_by (name_of_kind k t.bytes t.place) u.headed }) is_name))

pub headers_have_their_locals : HeadersHaveTheirLocals
headers_have_their_locals [] u are goes_on = refl
headers_have_their_locals (t ∷ names) u are goes_on = ap (locals_read names) (local_read t u goes_on are.0)
    ∙ headers_have_their_locals names (record u { headed = with_local (as_name t) u.headed }) are.1 goes_on

-- Lemmas about compilations

one_by_one : (names : List Seen) (u : Unit) → read_by (local_events names) (tokens_of names) u ≡ locals_read (tokens_of names) u
one_by_one [] u = refl
one_by_one (s ∷ names) u = one_by_one names (acted Action.Local (taken s.token u))

locals_gather : (names : List Seen) → AllGather (local_events names)
locals_gather [] = tt
locals_gather (s ∷ names) = (refl, locals_gather names)

pub headers_note_their_names : (limits : Limits) → HeadersNoteTheirNames limits
headers_note_their_names limits context next names w are goes_on =
    units_are_read_alone limits context next (local_events names) names w (locals_gather names)
    ∙ (one_by_one names w.unit ∙ headers_have_their_locals (tokens_of names) w.unit are goes_on)
