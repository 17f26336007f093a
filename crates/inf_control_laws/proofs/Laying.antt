-- Code that is laid between two moments of a compilation, in pieces.
use Rattle.std.proofs.Common.{◌≡◌, List, [], ◌∷◌, ◌++◌, Option, None, refl, sym, subst, append_assoc, append-nil}
use Rattle.inf_settings.specs.Bounds.{Limits}
use Rattle.inf_opcode.specs.declared.instructions.Label.{Label}
use Rattle.inf_output.specs.{Output.Code, Output.Out, Output.items_of, Output.laid, Output.laid_all, declared.items.Item.Item}
use Rattle.inf_interpreter.specs.{Claims.Claim, Claims.Laid, Machine.Place, Machine.World, Supplied.NamesStay}
use Rattle.inf_interpreter.proofs.Naming.{names_equal, names_then, supplies_before}
use Rattle.inf_interpreter.proofs.Laying.{Always, Then, code_none, item_laid, item_names, kept_none, laid_then, stands_back, stands_front}
use Rattle.inf_control_laws.specs.Runs.{KeepsApart, Lays, LaysNone}

pub lays_code : (w : World) (c : Code) (P : Claim) → Always w c P → (o : Out) → Lays w P o (c o)
lays_code w c P h o =
    let x = h o in record { items = x.items; laid = x.laid; names = x.names; runs = x.runs }

pub lays_then : (w : World) (P Q : Claim) (a b c : Out) → Lays w P a b → Lays w Q b c → Lays w (Then P Q) a c
lays_then w P Q a b c x y = record {
  items = x.items ++ y.items;
  laid = laid_then x.items y.items a b c x.laid y.laid;
  names = names_then a b c x.names y.names;
  runs = λ at rest k s. subst (λ from. Then P Q at from rest) (sym (append_assoc x.items y.items rest)) (
    y.items ++ rest,
    x.runs at (y.items ++ rest) (supplies_before w b c y.names y.laid.fits k) (stands_front x.items y.items at rest s),
    y.runs at rest k (stands_back x.items y.items at rest s),
  );
}

pub lays_so : (w : World) (P Q : Claim) (a b : Out) → ((at : Label → Place) (from to : Place) → P at from to → Q at from to) →
    Lays w P a b → Lays w Q a b
lays_so w P Q a b h x = record {
  items = x.items;
  laid = x.laid;
  names = x.names;
  runs = λ at rest k s. h at (x.items ++ rest) rest (x.runs at rest k s);
}

-- Lemmas about moments at which nothing is laid

pub none_then : (w : World) (P : Claim) (a b c : Out) → LaysNone a b → Lays w P b c → Lays w P a c
none_then w P a b c x y = record {
  items = y.items;
  laid = laid_then [] y.items a b c x.laid y.laid;
  names = names_then a b c x.names y.names;
  runs = y.runs;
}

pub then_none : (w : World) (P : Claim) (a b c : Out) → Lays w P a b → LaysNone b c → Lays w P a c
then_none w P a b c x y = record {
  items = x.items;
  laid = subst (λ l. Laid a l c) (append-nil x.items) (laid_then x.items [] a b c x.laid y.laid);
  names = names_then a b c x.names y.names;
  runs = λ at rest k s. x.runs at rest (supplies_before w b c y.names y.laid.fits k) s;
}

pub none_both : (a b c : Out) → LaysNone a b → LaysNone b c → LaysNone a c
none_both a b c x y = record { laid = laid_then [] [] a b c x.laid y.laid; names = names_then a b c x.names y.names }

-- Nothing is laid where code stays, and names stand for what they did, even if a limit is passed.
pub none_past : (a b : Out) → b.kept ≡ a.kept → (b.past ≡ None → a.past ≡ None) → b.code ≡ a.code → NamesStay a b → LaysNone a b
none_past a b kept fits code names = record {
  laid = record {
    kept = subst (λ k. b.kept ≡ k) (kept_none a.kept) kept;
    fits = fits;
    code = λ e. subst (λ c. b.code ≡ c) (code_none a.kept a.code) code;
  };
  names = names;
}

-- Nothing is laid where code, names and limits stay.
pub none_alike : (a b : Out) → b.kept ≡ a.kept → b.past ≡ a.past → b.code ≡ a.code → b.names ≡ a.names → LaysNone a b
none_alike a b kept past code names = record {
  laid = record {
    kept = subst (λ k. b.kept ≡ k) (kept_none a.kept) kept;
    fits = λ e. subst (λ p. p ≡ None) past e;
    code = λ e. subst (λ c. b.code ≡ c) (code_none a.kept a.code) code;
  };
  names = names_equal a b names;
}

-- Items that were kept apart are laid later.
all_laid : (limits : Limits) (items : List Item) (o : Out) → Laid o items (laid_all limits items o)
all_laid limits [] o = record { kept = kept_none o.kept; fits = λ e. e; code = λ e. code_none o.kept o.code }
all_laid limits (item ∷ items) o =
    laid_then (item ∷ []) items o (laid limits item o) (laid_all limits items (laid limits item o)) (item_laid limits item o)
    (all_laid limits items (laid limits item o))

all_names : (limits : Limits) (items : List Item) (o : Out) → NamesStay o (laid_all limits items o)
all_names limits [] o = names_equal o o refl
all_names limits (item ∷ items) o =
    names_then o (laid limits item o) (laid_all limits items (laid limits item o)) (item_names limits item o)
    (all_names limits items (laid limits item o))

pub kept_laid : (w : World) (limits : Limits) (P : Claim) (before now : Out) (kept : Option (List Item)) → KeepsApart w P before now kept →
    (o : Out) → NamesStay now o → (o.past ≡ None → now.past ≡ None) → Lays w P o (laid_all limits (items_of kept) o)
kept_laid w limits P before now kept h o names fits =
    let behind = laid_all limits (items_of kept) o in record {
      items = items_of kept;
      laid = all_laid limits (items_of kept) o;
      names = all_names limits (items_of kept) o;
      runs = λ at rest k s. h.runs at rest
          (supplies_before w now behind (names_then now o behind names (all_names limits (items_of kept) o))
          (λ e. fits ((all_laid limits (items_of kept) o).fits e)) k) s;
    }
