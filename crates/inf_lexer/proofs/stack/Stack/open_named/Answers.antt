use Rattle.std.proofs.Common.{◌≡◌, List, ℕ, ◌++◌, [], ◌∷◌, map, refl, sym, ap, ◌∙◌, arith}
use Rattle.std.specs.String.{string_bytes, string_eq}
use Rattle.indexmap.specs.IndexSet.{insert_key}
use Rattle.inf_devices.proofs.NamesOpened.{added_to, of_ok}
use Rattle.inf_devices.specs.declared.files.OpenFault.{OpenFault}
use Rattle.inf_lexer.specs.{Names.Nest, Names.number_of, Names.with_name, Readers.at_front, declared.enter_faults.EnterFault.EnterFault}
use Rattle.inf_lexer.proofs.{Attempts.attempt_closed, Attempts.attempt_failed, Attempts.attempt_none, Attempts.attempt_opened}
use Rattle.inf_lexer.proofs.{Attempts.closes_by, Attempts.opens_by, NameLists.nest_same, Reading.fault_is}
use Rattle.inf_lexer.proofs.stack.Stack.open_named.Goals as goal

pub returns-in_err-reserve-clause-attempt : goal.returns-in_err-reserve-clause-attempt
returns-in_err-reserve-clause-attempt g c =
    attempt_none EnterFault.Memory (fault_is c.from_residual.result c.from_residual.ensures) refl refl
    (nest_same c.reserve.ensures.keys c.self.view_is)

pub returns-in_err-lexer-clause-attempt : goal.returns-in_err-lexer-clause-attempt
returns-in_err-lexer-clause-attempt g c =
    attempt_none EnterFault.Memory (fault_is c.from_residual-in_err-lexer.result c.from_residual-in_err-lexer.ensures) refl refl
    (nest_same c.in_ok-reserve.ensures.keys c.self.view_is)

pub returns-in-Err-Absent-clause-attempt : goal.returns-in-Err-Absent-clause-attempt
returns-in-Err-Absent-clause-attempt g c =
    let e = c.in-Err-Absent.ensures in
    attempt_failed OpenFault.Absent c.in-Err-Absent.field-0-is c.as_str-2.ensures.value e.opens e.cause e.faults e.depth e.counts e.opened
    e.kept (c.keep.ensures ∙ nest_same c.in_ok-reserve.ensures.keys c.self.view_is)

pub returns-in-Err-Device-clause-attempt : goal.returns-in-Err-Device-clause-attempt
returns-in-Err-Device-clause-attempt g c =
    let e = c.in-Err-Device.ensures in
    attempt_failed OpenFault.Device c.in-Err-Device.field-0-is c.as_str-2.ensures.value e.opens e.cause e.faults e.depth e.counts e.opened
    e.kept (nest_same c.in_ok-reserve.ensures.keys c.self.view_is)

pub returns-in-Err-Memory-clause-attempt : goal.returns-in-Err-Memory-clause-attempt
returns-in-Err-Memory-clause-attempt g c =
    let e = c.in-Err-Memory.ensures in
    attempt_failed OpenFault.Memory c.in-Err-Memory.field-0-is c.as_str-2.ensures.value e.opens e.cause e.faults e.depth e.counts e.opened
    e.kept (nest_same c.in_ok-reserve.ensures.keys c.self.view_is)

pub returns-then-number-ge-MOST_NAMES-clause-attempt : goal.returns-then-number-ge-MOST_NAMES-clause-attempt
returns-then-number-ge-MOST_NAMES-clause-attempt g c =
    let o = c.in-Ok.ensures in let e = c.close.ensures in
    attempt_closed (opens_by c.as_str-2.ensures.value o.opens o.depth o.opened (o.faults.1 refl) o.counts o.kept)
    (closes_by e.closes e.depth e.opened e.faults e.counts e.kept) (omega (
      arith,
      c.if-number-ge-MOST_NAMES.true,
      c.number_of-number.ensures ∙ ap (λ (n : List ℕ). number_of n c.args.self.now.names) c.as_str.ensures.value,
    )) (nest_same c.in_ok-reserve.ensures.keys c.self.view_is)

pub returns-clause-attempt : goal.returns-clause-attempt
returns-clause-attempt g c =
    let o = c.in-Ok.ensures in let inside = c.self.inside in let name = string_bytes c.args.name in
    let number : c.number_of-number.result ≡ number_of name c.args.self.now.names =
    c.number_of-number.ensures ∙ ap (λ (n : List ℕ). number_of n c.args.self.now.names) c.as_str.ensures.value in
    let keys = of_ok c.insert.result _ (c.insert.ensures.succeeds (omega (arith, c.in_ok-reserve.ensures.ok))) c.insert.ensures.keys in
    let here : c.min-file.result ≡ number_of name (map string_bytes inside.names.keys) =
    omega (arith, c.min-file.ensures, c.if-number-ge-MOST_NAMES.false) ∙ number
    ∙ ap (λ (n : Nest). number_of name n.names) (sym c.self.view_is) in
    attempt_opened (opens_by c.as_str-2.ensures.value o.opens o.depth o.opened (o.faults.1 refl) o.counts o.kept)
    (omega (arith, number, c.if-number-ge-MOST_NAMES.false))
    (rw (← c.self.view_is) (
      ap (λ (names : List (List ℕ)). record {
        set = inside.set;
        limit = inside.limit;
        names = names;
        open_files = c.push.new.self.items;
      }) (ap (map string_bytes) (keys ∙ ap (λ ks. insert_key string_eq ks c.args.name) c.in_ok-reserve.ensures.keys)
          ∙ added_to inside.names.keys c.args.name) ∙ ap (λ (files : List ℕ). record {
            set = inside.set;
            limit = inside.limit;
            names = with_name name (map string_bytes inside.names.keys);
            open_files = files;
          }) (c.push.ensures.items ∙ ap (λ n. inside.open_files.items ++ n ∷ []) here),
      c.in_ok-lexer.ensures ∙ ap (at_front inside.set inside.limit) here,
    ))
