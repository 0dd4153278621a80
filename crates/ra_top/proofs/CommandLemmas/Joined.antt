-- Parts one after the other.
use Rattle.std.proofs.Common.{◌≡◌, ℕ, ◌<◌, ◌+◌, List, ◌++◌, length, take, drop, get_or, ap, sym, ◌∙◌}
use Rattle.std.specs.Borrow.{Bor}
use Rattle.std.proofs.lemmas.Grind.{flat_map-append}
use Rattle.std.proofs.lemmas.List.{take-append-drop, at_drop_more}
use Rattle.ra_top.specs.Commands.Status.{joined}

pub joined_cut : (parts : List (Bor (List ℕ))) (k : ℕ) (d : Bor (List ℕ)) → k < length parts → joined parts ≡ joined (take k parts) ++ ((get_or parts k d).now ++ joined (drop (k + 1) parts))
joined_cut parts k d h =
    ap joined (sym (take-append-drop k parts)) ∙ flat_map-append (λ p. p.now) (take k parts) (drop k parts) ∙ ap (λ r. joined (take k parts) ++ r) (at_drop_more joined parts k d h)
