use Rattle.std.proofs.Common.{◌-◌, Err, ℕ, List, refl, ap, subst, sym, ◌∙◌}
use Rattle.inf_lexer.specs.{Heads.goes_on_at, Heads.head_found, Readers.StaysOpen, Unread.to_come, Unread.unread}
use Rattle.inf_lexer.proofs.{Heading.goes_on_is, Heading.heard_word, Heading.took_word, Reading.fault_is, Reading.heard_source}
use Rattle.inf_lexer.proofs.{Reading.reads_refused}
use Rattle.inf_lexer.proofs.lexer.Lexer.next_head_word.Goals as goal

pub returns-in_err-last-clause-took : goal.returns-in_err-last-clause-took
returns-in_err-last-clause-took g c = rw (fault_is c.from_residual.result c.from_residual.ensures) (refl, tt)

pub returns-in_err-last-clause-went : goal.returns-in_err-last-clause-went
returns-in_err-last-clause-went g c = λ goes.
    rw (← c.self.view_is) (reads_refused (fault_is c.from_residual.result c.from_residual.ensures) c.in_err-last.ensures.went)

pub returns-in_err-last-clause-refused : goal.returns-in_err-last-clause-refused
returns-in_err-last-clause-refused g c =
    let files = g.F.Files in let sources = files.sources c.args.files.now in let lexer = c.self.inside in
    rw (← c.self.view_is, fault_is c.from_residual.result c.from_residual.ensures ∙ ap Err c.in_err-last.ensures.err) (
      refl,
      λ honest goes not. subst (λ (word : List ℕ). StaysOpen (λ bytes. (head_found c.args.place.now word lexer.seen.lines bytes).rest)
          (to_come sources (files.openings c.args.files.now) lexer.window) (c.scan_head.new.window.given - 16777216)
          (unread sources (files.openings c.scan_head.new.files))) c.clear.ensures (c.in_err-last.ensures.refused refl not honest),
    )

pub returns-clause-word : goal.returns-clause-word
returns-clause-word g c = λ honest. rw (← c.self.view_is)
    (heard_source (heard_word c.in_ok-last.ensures.heard c.clear.ensures c.is_word.ensures c.place_behind.ensures) honest)

pub returns-clause-heard : goal.returns-clause-heard
returns-clause-heard g c =
    rw (← c.self.view_is) (heard_word c.in_ok-last.ensures.heard c.clear.ensures c.is_word.ensures c.place_behind.ensures)

pub returns-clause-took : goal.returns-clause-took
returns-clause-took g c = (
  c.place_behind.ensures ∙ goes_on_is c.in_ok-last.last ∙ ap goes_on_at (sym c.is_word.ensures),
  rw (← c.self.view_is, c.is_word.ensures) (took_word c.in_ok-last.ensures.heard),
)

pub returns-clause-went : goal.returns-clause-went
returns-clause-went g c = λ goes. rw (← c.self.view_is) c.in_ok-last.ensures.heard.went
