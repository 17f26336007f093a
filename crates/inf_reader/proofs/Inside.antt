-- A token of a piece is judged, and so is the first one behind a piece. No token comes inside a piece and between two.
use Rattle.std.proofs.Common.{◌≡◌, ◌&&◌, List, [], ◌∷◌, Bool, true, false, not, cond, refl, ap, ◌∙◌}
use Rattle.inf_settings.specs.Bounds.{Limits}
use Rattle.inf_machine.specs.declared.symbols.Symbol.{Symbol}
use Rattle.inf_syntax.specs.declared.actions.Action.{Action}
use Rattle.inf_compilation.specs.{Actions.Compilation, Actions.piece_begun as work_begun, Context.Context}
use Rattle.inf_unit.specs.Tokens.{SourceToken, is_end}
use Rattle.inf_reader.specs.{Reading.Reading, Reading.judged, Reading.piece_begun, Reading.read_at, Reading.step, Reading.step_in}
use Rattle.inf_reader.specs.{Handing.is_between, Handing.is_empty, Handing.is_inside, Handing.reads, declared.recovery.Recovery.Recovery}

pub read_inside : (limits : Limits) (context : Context) (t : SourceToken) (stack : List (Symbol Action)) (r : Reading) (w : Compilation) →
    (stack ≡ [] → ⊥) → read_at limits context t stack r w ≡ judged limits context t r w
read_inside limits context t [] r w some = absurd (some refl)
read_inside limits context t (symbol ∷ symbols) r w some = refl

-- the step of a token inside a piece
step_by : (limits : Limits) (context : Context) (t : SourceToken) (mode : Recovery) (r : Reading) (w : Compilation) →
    reads mode && not (is_empty r.stack) ≡ true → step_in limits mode context t r w ≡ judged limits context t r w
step_by limits context t Recovery.Reads r w inside = read_inside limits context t r.stack r w (λ none. full r.stack inside none) where
  full : (stack : List (Symbol Action)) → not (is_empty stack) ≡ true → stack ≡ [] → ⊥
  full [] h e = let never : false ≡ true = h in cc
  full (symbol ∷ symbols) h e = cc
step_by limits context t Recovery.SkipsRoutine r w inside = let never : false ≡ true = inside in cc
step_by limits context t Recovery.SkipsDirective r w inside = let never : false ≡ true = inside in cc
step_by limits context t Recovery.Ended r w inside = let never : false ≡ true = inside in cc

pub stepped_inside : (limits : Limits) (context : Context) (t : SourceToken) (r : Reading) (w : Compilation) →
    is_inside r ≡ true → step limits context t r w ≡ judged limits context t r w
stepped_inside limits context t r w inside = step_by limits context t r.mode r w inside

pub read_first : (limits : Limits) (context : Context) (t : SourceToken) (stack : List (Symbol Action)) (r : Reading) (w : Compilation) →
    stack ≡ [] → is_end t.kind ≡ false → read_at limits context t stack r w ≡ judged limits context t (piece_begun r) (work_begun w)
read_first limits context t stack r w empty going = ap (λ s. read_at limits context t s r w) empty
    ∙ ap (λ b. cond b (record { reading = record r { mode = Recovery.Ended }; work = w })
    (judged limits context t (piece_begun r) (work_begun w))) going

pub not_between : (r : Reading) → is_inside r ≡ true → is_between r ≡ false
not_between r inside = by r.mode (is_empty r.stack) inside where
  by : (mode : Recovery) (empty : Bool) → reads mode && not empty ≡ true → reads mode && empty ≡ false
  by Recovery.Reads true h = let never : false ≡ true = h in cc
  by Recovery.Reads false h = refl
  by Recovery.SkipsRoutine empty h = refl
  by Recovery.SkipsDirective empty h = refl
  by Recovery.Ended empty h = refl
