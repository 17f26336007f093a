use Rattle.std.proofs.Common.{◌++◌, codes}
use Rattle.inf_report.specs.{Meant.meant, Messages.place, Messages.severity, Messages.text}
use Rattle.inf_report.proofs.Writings.{both_whole, failed, goes_on, stops, with_more}
use Rattle.inf_report.proofs.lines.write_line.Goals as goal

pub returns-in_err-write_place : goal.returns-in_err-write_place
returns-in_err-write_place g c =
    let p = place c.args.at.file.now c.args.at.line in let s = severity c.args.kind in
    let t = text (meant c.args.message.now) in let old = g.S.Sink.taken c.args.to.now in
    let new = g.S.Sink.taken c.write_place.new.to in let before = g.S.Sink.failures c.args.to.now in
    let after = g.S.Sink.failures c.write_place.new.to in let r = c.from_residual.result in
    let is = c.from_residual.ensures.0 in
    with_more old new before after (p ++ s ++ t) (codes "\n") r is
    (with_more old new before after (p ++ s) t r is (stops old new before after p s r is c.in_err-write_place.ensures))

pub returns-in_err-write_bytes : goal.returns-in_err-write_bytes
returns-in_err-write_bytes g c =
    let p = place c.args.at.file.now c.args.at.line in let s = severity c.args.kind in
    let t = text (meant c.args.message.now) in let old = g.S.Sink.taken c.args.to.now in
    let mid = g.S.Sink.taken c.write_place.new.to in let new = g.S.Sink.taken c.write_bytes.new.to in
    let before = g.S.Sink.failures c.args.to.now in let between = g.S.Sink.failures c.write_place.new.to in
    let after = g.S.Sink.failures c.write_bytes.new.to in let r = c.from_residual-in_err-write_bytes.result in
    let is = c.from_residual-in_err-write_bytes.ensures.0 in
    let cut = rw c.severity.ensures at c.in_err-write_bytes.ensures in
    with_more old new before after (p ++ s ++ t) (codes "\n") r is (with_more old new before after (p ++ s) t r is
    (goes_on old mid new before between after p s r c.in_ok-write_place.ensures (failed mid new between after s r is cut)))

pub returns-in_err-write_text : goal.returns-in_err-write_text
returns-in_err-write_text g c =
    let p = place c.args.at.file.now c.args.at.line in let s = severity c.args.kind in
    let t = text (meant c.args.message.now) in let old = g.S.Sink.taken c.args.to.now in
    let first = g.S.Sink.taken c.write_place.new.to in let mid = g.S.Sink.taken c.write_bytes.new.to in
    let new = g.S.Sink.taken c.write_text.new.to in let before = g.S.Sink.failures c.args.to.now in
    let early = g.S.Sink.failures c.write_place.new.to in let between = g.S.Sink.failures c.write_bytes.new.to in
    let after = g.S.Sink.failures c.write_text.new.to in let r = c.from_residual-in_err-write_text.result in
    let is = c.from_residual-in_err-write_text.ensures.0 in
    let severe = rw c.severity.ensures at c.in_ok-write_bytes.ensures in
    let cut = rw c.wording.ensures at c.in_err-write_text.ensures in
    with_more old new before after (p ++ s ++ t) (codes "\n") r is (goes_on old mid new before between after (p ++ s) t r
    (both_whole old first mid before early between p s c.in_ok-write_place.ensures severe) (failed mid new between after t r is cut))

pub returns : goal.returns
returns g c =
    let p = place c.args.at.file.now c.args.at.line in let s = severity c.args.kind in
    let t = text (meant c.args.message.now) in let old = g.S.Sink.taken c.args.to.now in
    let first = g.S.Sink.taken c.write_place.new.to in let mid = g.S.Sink.taken c.write_bytes.new.to in
    let last = g.S.Sink.taken c.write_text.new.to in let new = g.S.Sink.taken c.write_bytes-2.new.to in
    let before = g.S.Sink.failures c.args.to.now in let early = g.S.Sink.failures c.write_place.new.to in
    let between = g.S.Sink.failures c.write_bytes.new.to in let late = g.S.Sink.failures c.write_text.new.to in
    let after = g.S.Sink.failures c.write_bytes-2.new.to in
    let severe = rw c.severity.ensures at c.in_ok-write_bytes.ensures in
    let told = rw c.wording.ensures at c.in_ok-write_text.ensures in
    goes_on old last new before late after (p ++ s ++ t) (codes "\n") c.write_bytes-2.result
    (both_whole old mid last before between late (p ++ s) t
    (both_whole old first mid before early between p s c.in_ok-write_place.ensures severe) told) c.write_bytes-2.ensures
