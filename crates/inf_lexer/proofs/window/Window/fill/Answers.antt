use Rattle.std.proofs.Common.{◌+◌, true, false, refl, ap, ◌∙◌, arith}
use Rattle.inf_lexer.specs.Unread.{View}
use Rattle.inf_lexer.proofs.{Giving.written_window, Reading.fills_failed, Reading.fills_once}
use Rattle.inf_lexer.proofs.window.Window.fill.Goals as goal

pub returns-in_default-clause-fills : goal.returns-in_default-clause-fills
returns-in_default-clause-fills g c =
    fills_failed c.requires.empty c.requires.going c.in_default.ensures.reads refl (ap (λ (v : View). v.given) c.self.view_is)
    (ap (λ (v : View). v.is_over) c.self.view_is)

pub returns-then-self-gt-MOST_SOURCE_BYTES-clause-fills : goal.returns-then-self-gt-MOST_SOURCE_BYTES-clause-fills
returns-then-self-gt-MOST_SOURCE_BYTES-clause-fills g c =
    fills_once true c.requires.empty c.requires.going c.requires.given c.in-Ok.ensures.reads c.in-Ok.ensures.fits
    (omega (arith, c.in-Ok.ensures.count))
    (written_window c.in-Ok.count c.self.inside.buffer c.read_front.new.bytes (c.read_front.auto.bytes ∙ c.as_mut_slice.ensures.len))
    (ap (λ (v : View). v.given + c.in-Ok.count) c.self.view_is) refl tt (omega arith)

pub returns-clause-fills : goal.returns-clause-fills
returns-clause-fills g c = fills_once false c.requires.empty c.requires.going c.requires.given c.in-Ok.ensures.reads c.in-Ok.ensures.fits
    (omega (arith, c.in-Ok.ensures.count))
    (written_window c.in-Ok.count c.self.inside.buffer c.read_front.new.bytes (c.read_front.auto.bytes ∙ c.as_mut_slice.ensures.len))
    (ap (λ (v : View). v.given + c.in-Ok.count) c.self.view_is) refl (omega arith) tt
