-- A digest that is found among others.
use Rattle.std.proofs.Common.{◌≡◌, Bool, ◌||◌, List, [], ◌∷◌, map, refl}
use Rattle.std.specs.List.{list_any}
use Rattle.std.specs.Str.{bytes_eq}
use Rattle.interfaces.specs.declared.digest.Digest.{Digest}
use Rattle.policy.specs.Views.{digest_bytes}
use Rattle.session.specs.Steps.{among}

pub found_among : (same : Digest → Digest → Bool) → ((a b : Digest) → same a b ≡ bytes_eq a.bytes b.bytes) → (d : Digest) (ds : List Digest) → list_any (λ y. same y d) ds ≡ among d.bytes (map digest_bytes ds)
found_among same tells d [] = refl
found_among same tells d (x ∷ xs) = λ i. tells x d i || found_among same tells d xs i
