-- A setting is looked for by its name.
use Rattle.std.proofs.Common.{◌≡◌, ℕ, ◌+◌, ◌<◌, false, List, length, get_or, drop, drop-cons, add-one, refl, bytes_eq}
use Rattle.inf_settings.specs.{Settings.name_of, Settings.named_among, declared.setting.Setting.Setting}

-- a setting of another name is passed over
pub named_next : (name : List ℕ) (settings : List Setting) (i : ℕ) (d : Setting) → i < length settings →
    bytes_eq name (name_of (get_or settings i d)) ≡ false → named_among name (drop (i + 1) settings) ≡ named_among name (drop i settings)
named_next name settings i d within other = rw (add-one, drop-cons settings i d within, other) refl
