-- Operands that have to be defined, one after the other.
use Rattle.std.proofs.Common.{◌≡◌, ℕ, zero, suc, ◌+◌, ◌<◌, ◌≤◌, Bool, true, false, ◌&&◌, ◌||◌, List, [], ◌∷◌, length, drop, refl, sym, ap, ◌∙◌, add-one, arith}
use Rattle.std.specs.Prelude.{slice_index_or}
use Rattle.meaning.specs.Environment.{Value}
use Rattle.meaning.specs.Perform.{has_undef, lacks, lanes_of}

lacks_none : (ns : List Bool) → lacks ns [] ≡ false
lacks_none [] = refl
lacks_none (n ∷ ns) = refl

none_step : (n : Bool) (ns ms : List Bool) → lacks ns [] ≡ (n && false) || lacks ms []
none_step true ns ms = lacks_none ns ∙ sym (lacks_none ms)
none_step false ns ms = lacks_none ns ∙ sym (lacks_none ms)

one_step : (ns : List Bool) (vs : List (List Value)) (k : ℕ) → k < length ns → lacks (drop k ns) (drop k vs) ≡ (slice_index_or ns k false && has_undef (lanes_of vs k)) || lacks (drop (suc k) ns) (drop (suc k) vs)
one_step [] vs k h = absurd (omega arith)
one_step (n ∷ ns) [] zero h = none_step n (n ∷ ns) ns
one_step (n ∷ ns) (v ∷ vs) zero h = refl
one_step (n ∷ ns) [] (suc k) h = none_step (slice_index_or ns k false) (drop k ns) (drop (suc k) ns)
one_step (n ∷ ns) (v ∷ vs) (suc k) h = one_step ns vs k (omega arith)

pub lacks_step : (ns : List Bool) (vs : List (List Value)) (k : ℕ) → k < length ns → lacks (drop k ns) (drop k vs) ≡ (slice_index_or ns k false && has_undef (lanes_of vs k)) || lacks (drop (k + 1) ns) (drop (k + 1) vs)
lacks_step ns vs k h = one_step ns vs k h ∙ ap (λ j. (slice_index_or ns k false && has_undef (lanes_of vs k)) || lacks (drop j ns) (drop j vs)) (sym (add-one k))

-- behind the last there is none
pub lacks_end : (ns : List Bool) (vs : List (List Value)) (k : ℕ) → length ns ≤ k → lacks (drop k ns) vs ≡ false
lacks_end [] vs zero h = refl
lacks_end [] vs (suc k) h = refl
lacks_end (n ∷ ns) vs zero h = absurd (omega arith)
lacks_end (n ∷ ns) vs (suc k) h = lacks_end ns vs k (omega arith)
