-- What is read, piece by piece.
use Rattle.std.proofs.Common.{◌≡◌, ℕ, ◌<◌, ◌≤◌, ◌+◌, List, ◌++◌, length, take, drop, Option, Some, None, refl, ap, sym, ◌∙◌, subst, arith, length-drop, length-take}
use Rattle.std.specs.Prelude.{IfSome}
use Rattle.std.proofs.lemmas.List.{drop-drop, take_all, drop_all}
use Rattle.ra_top.specs.Devices.Device.{Takes}
use Rattle.ra_top.proofs.DeviceLemmas.Written.{take_on}

-- the first len bytes were read, and the others are left
abbrev pub IsFront : List ℕ → Option (List ℕ) → List ℕ → ℕ → Type 0
IsFront all cur bytes len = (bytes ≡ take len all) × (len ≤ length all) × (cur ≡ Some (drop len all))

abbrev pub HasFront : Option (List ℕ) → Option (List ℕ) → List ℕ → ℕ → Type 0
HasFront old cur bytes len = IfSome old (λ all. IsFront all cur bytes len)

front_takes : (all : List ℕ) (cur new : Option (List ℕ)) (bytes piece : List ℕ) (len n : ℕ) → IsFront all cur bytes len → IfSome cur (λ left. Takes left new piece n) → Takes (drop len all) new piece n
front_takes all cur new bytes piece len n f t = subst (λ o. IfSome o (λ left. Takes left new piece n)) f.2 t

pub HasFront-more : (old cur new : Option (List ℕ)) (bytes piece : List ℕ) (len n : ℕ) → HasFront old cur bytes len → IfSome cur (λ left. Takes left new piece n) → HasFront old new (bytes ++ take n piece) (len + n)
HasFront-more None cur new bytes piece len n f t = tt
HasFront-more (Some all) cur new bytes piece len n f t =
    let taken = front_takes all cur new bytes piece len n f t in (
      rw (f.0, taken.bytes) (take_on all len n),
      omega (arith, taken.within, length-drop len all),
      taken.rest ∙ ap Some (drop-drop n len all),
    )

-- there is as much as is wanted
pub HasFront-full : (old cur : Option (List ℕ)) (bytes : List ℕ) (len : ℕ) → HasFront old cur bytes len → IfSome old (λ all. bytes ≡ take len all)
HasFront-full None cur bytes len f = tt
HasFront-full (Some all) cur bytes len f = f.0

-- the file ended before that
pub HasFront-end : (old cur new : Option (List ℕ)) (bytes piece : List ℕ) (len most : ℕ) → 0 < length piece → len ≤ most → HasFront old cur bytes len → IfSome cur (λ left. Takes left new piece 0) → IfSome old (λ all. bytes ≡ take most all)
HasFront-end None cur new bytes piece len most room below f t = tt
HasFront-end (Some all) cur new bytes piece len most room below f t =
    let taken = front_takes all cur new bytes piece len 0 f t in
    let past : length all ≤ len = omega (arith, ap length (taken.end refl room), length-drop len all) in
    f.0 ∙ take_all len all past ∙ sym (take_all most all (omega arith))

-- what is left then
pub HasFront-left : (old cur new : Option (List ℕ)) (bytes piece : List ℕ) (len most : ℕ) → 0 < length piece → len ≤ most → HasFront old cur bytes len → IfSome cur (λ left. Takes left new piece 0) → IfSome old (λ all. new ≡ Some (drop most all))
HasFront-left None cur new bytes piece len most room below f t = tt
HasFront-left (Some all) cur new bytes piece len most room below f t =
    let taken = front_takes all cur new bytes piece len 0 f t in
    let past : length all ≤ len = omega (arith, ap length (taken.end refl room), length-drop len all) in
    taken.rest ∙ ap Some (taken.end refl room ∙ sym (drop_all most all (omega arith)))

-- as much was read as is wanted
pub HasFront-most : (old cur : Option (List ℕ)) (bytes : List ℕ) (len most : ℕ) → len ≡ most → HasFront old cur bytes len → IfSome old (λ all. cur ≡ Some (drop most all))
HasFront-most None cur bytes len most e f = tt
HasFront-most (Some all) cur bytes len most e f = f.2 ∙ ap (λ n. Some (drop n all)) e

-- a file of which no more than the most was read was read whole
pub read_whole : (file : Option (List ℕ)) (P : List ℕ → Type 0) (read : List ℕ) (most : ℕ) → IfSome file (λ all. read ≡ take (most + 1) all) → length read ≤ most → P read → IfSome file P
read_whole None P read most e h p = tt
read_whole (Some all) P read most e h p =
    let short : length all ≤ most + 1 = omega (arith, ap length e, length-take (most + 1) all) in
    subst P (e ∙ take_all (most + 1) all short) p
