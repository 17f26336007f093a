-- The steps of a turn: at most two tokens are handed on, of which the first of two is a `#`. Within a piece they all fit, or one is the
-- bad token.
use Rattle.std.proofs.Common.{◌≡◌, ℕ, List, [], ◌∷◌, ◌++◌, map, Bool, true, false, refl, sym, ◌∙◌, ap, subst, cond, true≢false}
use Rattle.std.proofs.lemmas.List.{map-append}
use Rattle.inf_settings.specs.Bounds.{Limits}
use Rattle.inf_scanner.specs.{declared.tokens.Mark.Mark, declared.tokens.TokenKind.TokenKind}
use Rattle.inf_machine.specs.{Grammar.IsText, Grammar.here, Machine.Read, Machine.fits, declared.symbols.Symbol.Symbol}
use Rattle.inf_machine.proofs.TokenLaws.{texts_are_taken}
use Rattle.inf_syntax.specs.{Atoms.mark_atom, declared.actions.Action.Action}
use Rattle.inf_grammar.specs.{Evaluated.language_is_decided, Language.grammar, Language.known, Routines.is_in_routine}
use Rattle.inf_unit.specs.{Atoms.atom_of_kind, Directives.Request, Tokens.SourceToken, Tokens.atom_of}
use Rattle.inf_compilation.specs.Context.{Context}
use Rattle.inf_reader.specs.{Handing.is_empty, Handing.skips, Pieces.IsPiece, declared.recovery.Recovery.Recovery}
use Rattle.inf_reader.specs.Reading.{Reading, ReaderState, passed as mode_behind, piece_rule, skip_of}
use Rattle.inf_laws.specs.KeptTokens.{Given, Kept, Unfit, token_in}
use Rattle.inf_laws.proofs.{Hashes.no_piece_ends_with_a_hash, KeptTokens.At, KeptTokens.goes}
use Rattle.inf_statement_laws.specs.Happenings.{Between}
use Rattle.inf_program.specs.{Turns.AllFit, Turns.IsFit, Turns.step_by, definition.BadPieces.AllSkipped, definition.Program.NoneGiven}
use Rattle.inf_program.specs.definition.Steps.{AllKept, Ends, Passes, Reads, Step}
use Rattle.inf_program.proofs.Grouping.{step_fit}

-- Lemmas about shapes

pub data Shape (all : List Step) : Type 0 where
  NoToken : NoneGiven all → Shape all
  OneToken : (m : Between) (given : Given) (rest : List Step) → all ≡ Passes m ∷ Reads given ∷ rest → NoneGiven rest → Shape all
  TwoTokens : (m : Between) (given next : Given) (rest : List Step) → all ≡ Passes m ∷ Reads given ∷ Reads next ∷ rest
      → (token_in given).kind ≡ TokenKind.Mark Mark.Hash → NoneGiven rest → Shape all

-- Conditional directives ask for nothing.
abbrev pub AllMild : List Step → Type 0
AllMild [] = Unit {0}
AllMild (Reads given ∷ steps) = AllMild steps
AllMild (Passes m ∷ steps) = ((a : Request) → m.asked a ≡ a) × AllMild steps
AllMild (Ends m ∷ steps) = ((a : Request) → m.asked a ≡ a) × AllMild steps

-- Lemmas about steps that hand nothing on

pub none_fit : (limits : Limits) (context : Context) (steps : List Step) (s : ReaderState) → NoneGiven steps → AllFit limits context steps s
none_fit limits context [] s free = tt
none_fit limits context (Passes m ∷ steps) s free = none_fit limits context steps (step_by limits context (Passes m) s) free
none_fit limits context (Ends m ∷ steps) s free = none_fit limits context steps (step_by limits context (Ends m) s) free
none_fit limits context (Reads given ∷ steps) s free = absurd free

pub none_kept : (steps : List Step) → NoneGiven steps → AllKept steps
none_kept [] free = tt
none_kept (Passes m ∷ steps) free = none_kept steps free
none_kept (Ends m ∷ steps) free = none_kept steps free
none_kept (Reads given ∷ steps) free = absurd free

pub none_skipped : (steps : List Step) (skip : Recovery) → NoneGiven steps → AllSkipped steps skip
none_skipped [] skip free = tt
none_skipped (Passes m ∷ steps) skip free = none_skipped steps skip free
none_skipped (Ends m ∷ steps) skip free = none_skipped steps skip free
none_skipped (Reads given ∷ steps) skip free = absurd free

-- Lemmas about hashes

by_routine : (b : Bool) → skips (mode_behind (cond b Recovery.SkipsRoutine Recovery.SkipsDirective) (TokenKind.Mark Mark.Hash)) ≡ true
by_routine true = refl
by_routine false = refl

-- behind a `#` tokens are still passed over
pub hash_skips : (symbols : List (Symbol Action)) (k : TokenKind) → k ≡ TokenKind.Mark Mark.Hash →
    skips (mode_behind (skip_of symbols) k) ≡ true
hash_skips symbols k e = ap (λ (x : TokenKind). skips (mode_behind (skip_of symbols) x)) e ∙ by_routine (is_in_routine symbols)

still_skips : (skip : Recovery) → skips skip ≡ true → skips (mode_behind skip (TokenKind.Mark Mark.Hash)) ≡ true
still_skips Recovery.SkipsRoutine e = refl
still_skips Recovery.SkipsDirective e = refl
still_skips Recovery.Reads e = absurd (true≢false (sym e))
still_skips Recovery.Ended e = absurd (true≢false (sym e))

-- all tokens of a turn are passed over
pub shape_skipped : (all : List Step) (skip : Recovery) → Shape all → skips skip ≡ true → AllSkipped all skip
shape_skipped all skip (NoToken free) e = none_skipped all skip free
shape_skipped all skip (OneToken m given rest is free) e = subst (λ (steps : List Step). AllSkipped steps skip) (sym is)
    (e, none_skipped rest (mode_behind skip (token_in given).kind) free)
shape_skipped all skip (TwoTokens m given next rest is is_hash free) e = subst (λ (steps : List Step). AllSkipped steps skip) (sym is)
    (e, two)
  where
    two : AllSkipped (Reads next ∷ rest) (mode_behind skip (token_in given).kind)
    two = (
      ap (λ (k : TokenKind). skips (mode_behind skip k)) is_hash ∙ still_skips skip e,
      none_skipped rest (mode_behind (mode_behind skip (token_in given).kind) (token_in next).kind) free,
    )

-- no piece ends with a `#`
whole_tokens : (tokens : List SourceToken) (r : Reading) → At tokens r → r.stack ≡ [] → IsPiece (map atom_of tokens)
whole_tokens tokens r at empty =
    let q : Read Action = at.is_read.r in
    let nothing_left : [] ≡ q.left = sym (at.is_read.leaves ∙ empty) in
    record {
      events = q.events ++ [];
      is_text = (texts_are_taken grammar known piece_rule (map atom_of tokens) (q.events ++ []) language_is_decided).1
          (q, [], at.is_read.is_read, refl, subst (λ (symbols : List (Symbol Action)). IsText grammar symbols [] []) nothing_left here);
    }

pub some_behind_hash : (tokens : List SourceToken) (h : SourceToken) (r : Reading) → At (tokens ++ h ∷ []) r
    → h.kind ≡ TokenKind.Mark Mark.Hash → is_empty r.stack ≡ false
some_behind_hash tokens h r at is_hash = by_stack r.stack refl
  where
    atoms : map atom_of (tokens ++ h ∷ []) ≡ map atom_of tokens ++ mark_atom Mark.Hash ∷ []
    atoms = map-append atom_of tokens (h ∷ [])
        ∙ ap (λ (k : TokenKind). map atom_of tokens ++ atom_of_kind h.is_class k h.bytes ∷ []) is_hash

    by_stack : (symbols : List (Symbol Action)) → r.stack ≡ symbols → is_empty r.stack ≡ false
    by_stack [] empty =
        let p : IsPiece (map atom_of (tokens ++ h ∷ [])) = whole_tokens (tokens ++ h ∷ []) r at empty in
        absurd (no_piece_ends_with_a_hash (map atom_of tokens) p.events
        (subst (λ (xs : List ℕ). IsText grammar (Symbol.Rule piece_rule ∷ []) xs p.events) atoms p.is_text))
    by_stack (symbol ∷ symbols) some = ap is_empty some

-- Lemmas about steps within a piece

-- a token does not fit
abbrev pub Misfits : Given → List (Symbol Action) → Type 0
Misfits (Kept t) symbols = fits grammar known (atom_of t) symbols ≡ false
Misfits (Unfit t) symbols = Unit {0}

-- the reading behind a kept token, behind the effect of conditional directives
abbrev pub behind_kept : Limits → Context → Between → SourceToken → ReaderState → ReaderState
behind_kept limits context m h s = step_by limits context (Reads (Kept h)) (step_by limits context (Passes m) s)

pub data Sorted (limits : Limits) (context : Context) (all : List Step) (s : ReaderState) : Type 0 where
  Fit : AllFit limits context all s → AllKept all → Sorted limits context all s
  CutFirst : (m : Between) (given : Given) (after : List Step) → all ≡ Passes m ∷ Reads given ∷ after → Misfits given s.reading.stack
      → AllSkipped after (mode_behind (skip_of s.reading.stack) (token_in given).kind) → Sorted limits context all s
  CutSecond : (m : Between) (h : SourceToken) (given : Given) (after : List Step) → all ≡ Passes m ∷ Reads (Kept h) ∷ Reads given ∷ after
      → IsFit h s.reading → is_empty (behind_kept limits context m h s).reading.stack ≡ false
      → Misfits given (behind_kept limits context m h s).reading.stack
      → AllSkipped after (mode_behind (skip_of (behind_kept limits context m h s).reading.stack) (token_in given).kind)
      → Sorted limits context all s

-- a token that comes alone
sort_one : (limits : Limits) (context : Context) (all : List Step) (s : ReaderState) (m : Between) (t : SourceToken) (rest : List Step)
    → all ≡ Passes m ∷ Reads (Kept t) ∷ rest → NoneGiven rest → s.reading.mode ≡ Recovery.Reads → is_empty s.reading.stack ≡ false
    → (b : Bool) → fits grammar known (atom_of t) s.reading.stack ≡ b → Sorted limits context all s
sort_one limits context all s m t rest is free reads some true fit =
    Fit (subst (λ (steps : List Step). AllFit limits context steps s) (sym is)
    (record { reads = reads; is_inside = some; is_fit = fit }, none_fit limits context rest (behind_kept limits context m t s) free))
    (subst (λ (steps : List Step). AllKept steps) (sym is) (none_kept rest free))
sort_one limits context all s m t rest is free reads some false out =
    CutFirst m (Kept t) rest is out (none_skipped rest (mode_behind (skip_of s.reading.stack) t.kind) free)

-- tokens behind a bad `#`
hash_skipped : (symbols : List (Symbol Action)) (k : TokenKind) (next : Given) (rest : List Step) → k ≡ TokenKind.Mark Mark.Hash
    → NoneGiven rest → AllSkipped (Reads next ∷ rest) (mode_behind (skip_of symbols) k)
hash_skipped symbols k next rest is_hash free = (
  hash_skips symbols k is_hash,
  none_skipped rest (mode_behind (mode_behind (skip_of symbols) k) (token_in next).kind) free,
)

-- a token behind a `#` that fits
sort_two : (limits : Limits) (context : Context) (all : List Step) (s : ReaderState) (m : Between) (h : SourceToken) (next : Given)
    (rest : List Step)
    → all ≡ Passes m ∷ Reads (Kept h) ∷ Reads next ∷ rest → NoneGiven rest → IsFit h s.reading
    → (behind_kept limits context m h s).reading.mode ≡ Recovery.Reads
    → is_empty (behind_kept limits context m h s).reading.stack ≡ false
    → (b : Bool) → fits grammar known (atom_of (token_in next)) (behind_kept limits context m h s).reading.stack ≡ b
    → Sorted limits context all s
sort_two limits context all s m h (Unfit t) rest is free fit reads some b e = CutSecond m h (Unfit t) rest is fit some tt
    (none_skipped rest (mode_behind (skip_of (behind_kept limits context m h s).reading.stack) t.kind) free)
sort_two limits context all s m h (Kept t) rest is free fit reads some true e =
    Fit (subst (λ (steps : List Step). AllFit limits context steps s) (sym is)
    (fit, both))
    (subst (λ (steps : List Step). AllKept steps) (sym is) (none_kept rest free))
  where
    both : AllFit limits context (Reads (Kept t) ∷ rest) (behind_kept limits context m h s)
    both = (
      record { reads = reads; is_inside = some; is_fit = e },
      none_fit limits context rest (step_by limits context (Reads (Kept t)) (behind_kept limits context m h s)) free,
    )
sort_two limits context all s m h (Kept t) rest is free fit reads some false e = CutSecond m h (Kept t) rest is fit some e
    (none_skipped rest (mode_behind (skip_of (behind_kept limits context m h s).reading.stack) t.kind) free)

-- a `#` that comes before another token
sort_hash : (limits : Limits) (context : Context) (all : List Step) (s : ReaderState) (tokens : List SourceToken) (m : Between)
    (h : SourceToken) (next : Given) (rest : List Step)
    → all ≡ Passes m ∷ Reads (Kept h) ∷ Reads next ∷ rest → h.kind ≡ TokenKind.Mark Mark.Hash → NoneGiven rest → At tokens s.reading
    → is_empty s.reading.stack ≡ false → (b : Bool) → fits grammar known (atom_of h) s.reading.stack ≡ b → Sorted limits context all s
sort_hash limits context all s tokens m h next rest is is_hash free at some false out =
    CutFirst m (Kept h) (Reads next ∷ rest) is out (hash_skipped s.reading.stack h.kind next rest is_hash free)
sort_hash limits context all s tokens m h next rest is is_hash free at some true fit =
    let f : IsFit h s.reading = record { reads = at.reads; is_inside = some; is_fit = fit } in
    let there : At (tokens ++ h ∷ []) (behind_kept limits context m h s).reading =
    subst (λ (x : ReaderState). At (tokens ++ h ∷ []) x.reading)
    (sym (step_fit limits context h s.reading (step_by limits context (Passes m) s).work f)) (goes tokens s.reading h at fit) in
    sort_two limits context all s m h next rest is free f there.reads
    (some_behind_hash tokens h (behind_kept limits context m h s).reading there is_hash)
    (fits grammar known (atom_of (token_in next)) (behind_kept limits context m h s).reading.stack) refl

pub sorted : (limits : Limits) (context : Context) (all : List Step) (s : ReaderState) (tokens : List SourceToken) → Shape all
    → At tokens s.reading → is_empty s.reading.stack ≡ false → Sorted limits context all s
sorted limits context all s tokens (NoToken free) at some = Fit (none_fit limits context all s free) (none_kept all free)
sorted limits context all s tokens (OneToken m (Kept t) rest is free) at some =
    sort_one limits context all s m t rest is free at.reads some (fits grammar known (atom_of t) s.reading.stack) refl
sorted limits context all s tokens (OneToken m (Unfit t) rest is free) at some =
    CutFirst m (Unfit t) rest is tt (none_skipped rest (mode_behind (skip_of s.reading.stack) t.kind) free)
sorted limits context all s tokens (TwoTokens m (Kept h) next rest is is_hash free) at some =
    sort_hash limits context all s tokens m h next rest is is_hash free at some (fits grammar known (atom_of h) s.reading.stack) refl
sorted limits context all s tokens (TwoTokens m (Unfit h) next rest is is_hash free) at some =
    CutFirst m (Unfit h) (Reads next ∷ rest) is tt (hash_skipped s.reading.stack h.kind next rest is_hash free)
