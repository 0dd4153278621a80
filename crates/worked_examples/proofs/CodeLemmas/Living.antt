-- Live lanes of small codes: derivations, and tables that list all.
use Rattle.std.proofs.Common.{◌≡◌, ◌∷◌, ◌&&◌, ◌||◌, ℕ, true, false, cond, None, refl, nat_lt, []}
use Rattle.std.specs.Prelude.{nat_eq}
use Rattle.meaning.specs.Code.{BlockEnd, Code, found}
use Rattle.meaning.specs.Live.{Live, here, there}
use Rattle.laws.proofs.Least.{behind, whole}
use Rattle.laws.proofs.Tables.{live-listed}
use Rattle.laws.specs.Tables.{LiveTable}
use Rattle.worked_examples.specs.Code.Codes.{copying_loop, idle_loop, read_loop, slot, unreserved}
use Rattle.worked_examples.specs.Code.Liveness.{IdleCopies, ReadCopies, StoresAreRead}
use Rattle.worked_examples.specs.Code.Samples.{reg, ret}
use Rattle.meaning.specs.Live as live

abbrev idle_table : LiveTable
idle_table n = reg 2 ∷ []

idle : (k : ℕ) → nat_eq 2 k ≡ false → Live unreserved idle_loop (found 1 idle_loop) (reg k) → ⊥
idle k e h = let x : nat_eq 2 k && true || false ≡ true = live-listed unreserved idle_loop idle_table refl h (behind (behind (behind whole))) in absurd (cc)

counter : (p : Code) → Live unreserved (copying_loop p) (found 1 (copying_loop p)) (reg 2)
counter p = live.next refl (live.next refl (live.read here here refl) refl refl) refl refl

pub idle_copies : IdleCopies
idle_copies = (idle 0 refl, idle 1 refl, counter (ret [] ∷ BlockEnd None [] ∷ []))

-- register 1 is copied to register 0, which is read behind the loop
read_copy : Live unreserved read_loop (found 1 read_loop) (reg 1)
read_copy = live.next refl (live.next refl (live.leap (there here) (live.read here here refl) refl refl refl) refl refl) refl refl

abbrev read_table : LiveTable
read_table n = cond (nat_lt n 4) (reg 0 ∷ []) (cond (nat_lt n 6) (reg 0 ∷ reg 1 ∷ reg 2 ∷ []) (cond (nat_eq n 6) (reg 0 ∷ reg 2 ∷ []) (reg 1 ∷ reg 2 ∷ [])))

pub read_copies : ReadCopies
read_copies = (read_copy, (λ h. let x : false ≡ true = live-listed unreserved read_loop read_table refl h (behind (behind (behind whole))) in absurd (cc)))

pub stores_are_read : StoresAreRead
stores_are_read = (
  live.next refl (live.next {a = slot} refl (live.next refl (live.read here here refl) refl refl) refl refl) refl refl,
  live.next refl (live.store 8 refl (live.next refl (live.read here here refl) refl refl) refl refl refl) refl refl,
)
