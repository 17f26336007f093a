use Rattle.std.proofs.Common.{◌-◌, ◌<◌, ◌⊎◌, inl, inr, true, false, Err, IsTrue, refl, sym, ap, subst, ◌∙◌, arith, length}
use Rattle.inf_devices.specs.Files.{Rose}
use Rattle.inf_lexer.proofs.Candidates.{rose_earlier}
use Rattle.inf_lexer.proofs.Reading.{fault_is}
use Rattle.inf_lexer.specs.{Heads.goes_on_at, Heads.is_behind, Heads.is_word, Unread.unread, declared.head.HeadPlace.HeadPlace}
use Rattle.inf_sources.specs.{Heading.ReadsHead, Heading.UnfinishedHead, Open.nesting}
use Rattle.inf_sources.proofs.Calls.{fit_none, fit_then, went_none, went_then}
use Rattle.inf_command.specs.Heads.{HeadWords, take_head_word}
use Rattle.inf_compile.proofs.Heading.{Leads, behind_call, leads_first, leads_on, leads_out, stops_behind}
use Rattle.inf_compile.proofs.heads.read_head.Goals as goal

pub loop-head-init : goal.loop-head-init
loop-head-init g c =
    let files = g.F.Files in let a = c.args.files.now in let x = c.args.open_files.now in
    record {
      led = λ honest start nested.
          let first = nesting (files.sources a) start (files.openings a) x in
          subst (λ (h : HeadWords). Leads first first HeadPlace.Line h) (sym c.none-head.ensures) (leads_first first);
      opened = λ honest start nested. refl;
      went = went_none files a x;
      fits = fit_none files a x;
      is_open = c.requires.is_open;
      goes = c.requires.goes;
      same = (refl, (refl, refl));
      seen = refl;
      window = λ few. few;
      before = refl;
      none = refl;
    }

pub loop-head-preserved : goal.loop-head-preserved
loop-head-preserved g c =
    let files = g.F.Files in let a = c.args.files.now in let b = c.loop-head.files in
    let d = c.next_head_word.new.files in let x = c.args.open_files.now in let y = c.loop-head.open_files in
    let z = c.next_head_word.new.self in let from = c.loop-head.place in let at = c.next_head_word.new.place in
    let word = c.next_head_word.new.word.items in let inv = c.loop-head.invariant in
    let call = c.next_head_word.ensures in let took = c.in_ok-next_head_word.ensures in
    let goes_to = took.took.0 ∙ ap goes_on_at c.if-branch.true in
    record {
      led = λ honest start nested.
          let first = nesting (files.sources a) start (files.openings a) x in
          let was = nesting (files.sources a) start (files.openings b) y in
          let now = nesting (files.sources a) start (files.openings d) z in
          let reads : ReadsHead true at word from was now =
          behind_call files a b x y (λ s start. ReadsHead true at word from (nesting s start (files.openings b) y)
          (nesting s start (files.openings d) z)) inv.went
          (λ still start here. subst (λ is. ReadsHead is at word from (nesting (files.sources b) start (files.openings b) y)
          (nesting (files.sources b) start (files.openings d) z)) c.if-branch.true (took.word still start here)) honest start nested in
          subst (λ (h : HeadWords). Leads first now at h)
          (sym (c.take.ensures ∙ ap (λ w. take_head_word c.loop-head.head w) c.as_slice.ensures.value))
          (leads_on first was now from at c.loop-head.head word (inv.led honest start nested) inv.none reads);
      opened = λ honest start nested.
          call.reads.opened (subst (λ t. IsTrue t) (sym inv.went.honesty) honest) start (inv.went.nested honest start nested)
          ∙ inv.opened honest start nested;
      went = went_then files a b d x y z inv.went call.reads.went;
      fits = fit_then files a b d x y inv.went inv.fits took.reads.fits;
      is_open = omega (arith, inv.is_open, call.reads.went.depth, ap (λ fs. length fs) call.reads.outer);
      goes = took.failed;
      same = (call.reads.nest ∙ inv.same.0, (call.reads.outer ∙ inv.same.1.0, call.reads.file ∙ inv.same.1.1));
      seen = took.reads.on.calm ∙ inv.seen;
      window = λ few. call.reads.on.window;
      before = ap is_behind goes_to;
      none = ap is_word goes_to;
    }

pub returns-clause-read : goal.returns-clause-read
returns-clause-read g c = λ honest start nested.
    let files = g.F.Files in let a = c.args.files.now in let b = c.loop-head.files in let d = c.next_head_word.new.files in
    let x = c.args.open_files.now in let y = c.loop-head.open_files in let z = c.next_head_word.new.self in
    let from = c.loop-head.place in let at = c.next_head_word.new.place in let word = c.next_head_word.new.word.items in
    let inv = c.loop-head.invariant in let took = c.in_ok-next_head_word.ensures in
    let first = nesting (files.sources a) start (files.openings a) x in let was = nesting (files.sources a) start (files.openings b) y in
    let now = nesting (files.sources a) start (files.openings d) z in
    let reads : ReadsHead false at word from was now =
    behind_call files a b x y (λ s start. ReadsHead false at word from (nesting s start (files.openings b) y)
    (nesting s start (files.openings d) z)) inv.went
    (λ still start here. subst (λ is. ReadsHead is at word from (nesting (files.sources b) start (files.openings b) y)
    (nesting (files.sources b) start (files.openings d) z)) c.if-branch.false (took.word still start here)) honest start nested in
    let out = leads_out first was now from at c.loop-head.head word (inv.led honest start nested) reads in
    record {
      head = out.says;
      nesting = out.nest;
      opened = c.next_head_word.ensures.reads.opened (subst (λ t. IsTrue t) (sym inv.went.honesty) honest) start
          (inv.went.nested honest start nested) ∙ inv.opened honest start nested;
      unfinished = tt;
    }

pub returns-clause-leaves : goal.returns-clause-leaves
returns-clause-leaves g c =
    let inv = c.loop-head.invariant in let reads = c.next_head_word.ensures.reads in
    record {
      went = went_then g.F.Files c.args.files.now c.loop-head.files c.next_head_word.new.files c.args.open_files.now c.loop-head.open_files
          c.next_head_word.new.self inv.went reads.went;
      fits = fit_then g.F.Files c.args.files.now c.loop-head.files c.next_head_word.new.files c.args.open_files.now c.loop-head.open_files
          inv.went inv.fits c.in_ok-next_head_word.ensures.reads.fits;
      same = (reads.nest ∙ inv.same.0, (reads.outer ∙ inv.same.1.0, reads.file ∙ inv.same.1.1));
      window = λ few. reads.on.window;
      seen = c.in_ok-next_head_word.ensures.reads.on.calm ∙ inv.seen;
      on = λ lost. cc;
      cause = λ lost. cc;
    }

pub returns-in_err-next_head_word-clause-read : goal.returns-in_err-next_head_word-clause-read
returns-in_err-next_head_word-clause-read g c = λ honest start nested.
    let files = g.F.Files in let a = c.args.files.now in let b = c.loop-head.files in let d = c.next_head_word.new.files in
    let x = c.args.open_files.now in let y = c.loop-head.open_files in
    let past = c.next_head_word.new.self.lexer.window.given - 16777216 in let from = c.loop-head.place in
    let inv = c.loop-head.invariant in let stops = c.in_err-next_head_word.ensures in
    let not_ended : UnfinishedHead from (nesting (files.sources a) start (files.openings b) y).cursor past
    (unread (files.sources a) (files.openings d)) =
    behind_call files a b x y (λ s start. UnfinishedHead from (nesting s start (files.openings b) y).cursor past
    (unread s (files.openings d))) inv.went (λ still start here. stops.refused.1 still start inv.before) honest start nested in
    rw (fault_is c.from_residual.result c.from_residual.ensures) (record {
      head = tt;
      nesting = tt;
      opened = c.next_head_word.ensures.reads.opened (subst (λ t. IsTrue t) (sym inv.went.honesty) honest) start
          (inv.went.nested honest start nested) ∙ inv.opened honest start nested;
      unfinished = stops_behind (nesting (files.sources a) start (files.openings a) x) (nesting (files.sources a) start (files.openings b) y)
          from c.loop-head.head past (unread (files.sources a) (files.openings d)) (inv.led honest start nested) not_ended;
    })

pub returns-in_err-next_head_word-clause-leaves : goal.returns-in_err-next_head_word-clause-leaves
returns-in_err-next_head_word-clause-leaves g c =
    let files = g.F.Files in let inv = c.loop-head.invariant in let stops = c.in_err-next_head_word.ensures in
    let all = c.next_head_word.ensures.reads in let told = stops.refused.0 in let reads = rw told at stops.reads in
    let cause : Rose (files.faults c.args.files.now) (files.faults c.next_head_word.new.files)
    ⊎ (16777216 < c.next_head_word.new.self.lexer.window.given) = elim reads.on.cause [
      | inl rose ↦ inl (rose_earlier (files.faults c.args.files.now) (files.faults c.loop-head.files)
          (files.faults c.next_head_word.new.files) inv.went.faults rose)
      | inr long ↦ inr long
    ] in
    rw (fault_is c.from_residual.result c.from_residual.ensures) (record {
      went = went_then files c.args.files.now c.loop-head.files c.next_head_word.new.files c.args.open_files.now c.loop-head.open_files
          c.next_head_word.new.self inv.went all.went;
      fits = tt;
      same = (all.nest ∙ inv.same.0, (all.outer ∙ inv.same.1.0, all.file ∙ inv.same.1.1));
      window = λ few. all.on.window;
      seen = tt;
      on = λ lost. reads.on.on;
      cause = λ lost. (ap Err told, cause);
    })
