-- Pieces that are looked at again: those whose causes hold stay, the others take certain causes or fall.
use Rattle.std.proofs.Common.{◌≡◌, ◌<◌, ◌+◌, ◌⊎◌, ℕ, Bool, true, false, length, List, [], ◌∷◌, ◌++◌, None, refl, sym, ap, ◌∙◌, subst, inl, inr, drop, get_or, drop-cons, add-one, append_assoc, append-nil}
use Rattle.std.proofs.lemmas.List.{length-map, map-append}
use Rattle.mir_meaning.specs.Paths.{Code}
use Rattle.live_lanes.specs.declared.compute.flow.BlockFlow.{BlockFlow}
use Rattle.live_lanes.specs.declared.row.Cause.{Cause}
use Rattle.live_lanes.specs.declared.row.Cause.TheVariants as reasons
use Rattle.live_lanes.specs.declared.row.LaneRange.{LaneRange}
use Rattle.live_edits.specs.declared.pieces.PieceSpot.{PieceSpot}
use Rattle.live_lanes.specs.Graph.{Causes, is_live}
use Rattle.live_lanes.specs.Table.{Numbers, entry_rank, exit_rank}
use Rattle.live_lanes.specs.Entered.{start_of, rows_seen, causes, IsTableOf}
use Rattle.live_lanes.specs.Growth.{piece_in_rows}
use Rattle.live_lanes.specs.Lasting.{piece_of, AllRise}
use Rattle.live_lanes.proofs.Growth.{piece-law}
use Rattle.live_lanes.proofs.Lasting.{piece-shape}
use Rattle.live_lanes.proofs.Pieces.{certain-same}
use Rattle.edit_laws.specs.Chains.{Node}
use Rattle.edit_laws.specs.Reasons.{ReasonFor, cause_of, Touched}
use Rattle.edit_laws.specs.RowCause.{GivesCause, HasGiven}
use Rattle.edit_laws.specs.Rechecked.{IsHeld, held_dead, held_reading, held_exit, held_end}
use Rattle.edit_laws.specs.Update.{Holds, holds_dead, holds_reading, holds_exit, holds_end, given, Fall, falling, FallStep, stays, takes, falls, Falls, fell, fall}
use Rattle.edit_laws.proofs.Fallen.{Given, given-cases}
use Rattle.edit_laws.proofs.Rechecked.{certain-cause-law}
use Rattle.edit_laws.proofs.RowCause.{row-cause-law}
use Rattle.edit_laws.proofs.Runs.{runs-follow}
use Rattle.live_edits.specs.declared.log.LoggedRows.{LoggedRows}
use Rattle.live_edits.specs.Logged.{LogsLives}
use Rattle.live_edits.specs.Pieces.{node_of, nodes_of, KeepsPieces}
use Rattle.live_edits.specs.Updated.{AreTold, IsCarriedOver, certain_at, LosesCause, unless_live, ListsFallen}
use Rattle.live_edits.proofs.Logged.{lives-then}
use Rattle.live_edits.proofs.KeptPieces.{pieces-then, live-there}

-- what of a piece's cause holds depends on that cause alone
holds-moves : {touched : Touched} {code : Code} {why : Causes} {l b n : ℕ} → Holds touched code why l b n → (why' : Causes) → why' l b n ≡ why l b n → Holds touched code why' l b n
holds-moves (holds_dead d) why' e = holds_dead (ap is_live e ∙ d)
holds-moves (holds_reading before s rest g c t) why' e = holds_reading before s rest g (e ∙ c) t
holds-moves (holds_exit before s rest g c t) why' e = holds_exit before s rest g (e ∙ c) t
holds-moves (holds_end c) why' e = holds_end (e ∙ c)

-- a piece that is given the cause that it has
given-same : (why : Causes) (n : Node) (c : Cause) → cause_of why n ≡ c → given why n c ≡ why
given-same why n c e = λ i. λ l b k. at l b k (given-cases why n c (l, b, k)) i
  where
    at : (l b k : ℕ) → Given why n c (l, b, k) → given why n c l b k ≡ why l b k
    at l b k (inl z) = z.2 ∙ (sym e ∙ ap (cause_of why) (sym z.1))
    at l b k (inr z) = z.1

none-live : (c : Cause) → is_live c ≡ false → c ≡ reasons.None
none-live reasons.None e = refl
none-live (reasons.Reading id) e = absurd (cc)
none-live (reasons.Follower x) e = absurd (cc)
none-live reasons.Phi e = absurd (cc)

-- rows of the same shapes

module _ (old now : List LaneRange) (keeps : KeepsPieces old now) where
  pub certain-kept : (n : Node) → certain_at now n ≡ certain_at old n
  certain-kept n = certain-same (rows_seen now n.0 n.1) (rows_seen old n.0 n.1) n.2 (keeps.shapes n.0 n.1)

  piece-kept : (slots : Numbers) (l b at : ℕ) → piece_in_rows slots old l b at ≡ piece_in_rows slots now l b at
  piece-kept slots l b at = piece-shape slots at (rows_seen old l b) ∙ (ap (piece_of slots at) (sym (keeps.shapes l b)) ∙ sym (piece-shape slots at (rows_seen now l b)))

  count-kept : (l b : ℕ) → length (rows_seen old l b).segments ≡ length (rows_seen now l b).segments
  count-kept l b = sym (length-map (rows_seen old l b).segments start_of) ∙ (ap (λ h. length h.segments) (sym (keeps.shapes l b)) ∙ length-map (rows_seen now l b).segments start_of)

  -- a cause that holds and is as at first held at first
  held-first : (touched : Touched) (slots : Numbers) (flow : List BlockFlow) (l b n : ℕ) → causes now l b n ≡ causes old l b n → IsHeld touched slots flow now l b n → IsHeld touched slots flow old l b n
  held-first touched slots flow l b n same (held_dead d) = held_dead (ap is_live (sym same) ∙ d)
  held-first touched slots flow l b n same (held_reading id c out at) = held_reading id (sym same ∙ c) out (piece-kept slots l b (entry_rank slots id) ∙ at)
  held-first touched slots flow l b n same (held_exit x id c i at) = held_exit x id (sym same ∙ c) i (piece-kept slots l b (exit_rank slots id) ∙ at)
  held-first touched slots flow l b n same (held_end x c at) = held_end x (sym same ∙ c) (count-kept l b ∙ at)

-- what has been looked at so far: each piece has its first cause still, or that which needs no other lane
pub record RunsSoFar (touched : Touched) (code : Code) (slots : Numbers) (flow : List BlockFlow) (old now : List LaneRange) (list todo fallen : List Node) : Type 0 where
  pub run : Falls touched code (falling (causes old) list [] list) (falling (causes now) todo fallen (list ++ fallen))
  pub table : IsTableOf code slots flow now
  pub each : (n : Node) → (cause_of (causes now) n ≡ cause_of (causes old) n) ⊎ (cause_of (causes now) n ≡ certain_at old n)

-- one step more
then-step : (touched : Touched) (code : Code) (why : Causes) (list : List Node) (d e : Fall) → Falls touched code (falling why list [] list) d → FallStep touched code d e → Falls touched code (falling why list [] list) e
then-step touched code why list d e x s = runs-follow.falls touched code (falling why list [] list) d e x (fall s fell)

module _ (touched : Touched) (code : Code) (slots : Numbers) (flow : List BlockFlow) (old : List LaneRange) (list : List Node) (c : IsCarriedOver touched code slots flow old list) where
  abbrev Run : Causes → List Node → List Node → Type 0
  Run why todo fallen = Falls touched code (falling (causes old) list [] list) (falling why todo fallen (list ++ fallen))

  pub runs-at-first : RunsSoFar touched code slots flow old old list list []
  runs-at-first = record {
    run = subst (λ qs. Falls touched code (falling (causes old) list [] list) (falling (causes old) list [] qs)) (sym (append-nil list)) fell;
    table = c.table;
    each = λ n. inl refl;
  }

  certain-reason : (n : Node) → is_live (certain_at old n) ≡ true → ReasonFor code n (certain_at old n) None
  certain-reason n e = (certain-cause-law code slots flow old c.table n.0 n.1 n.2).reason e

  -- a piece whose cause holds
  pub runs-where-held : (now : List LaneRange) (n : Node) (todo fallen : List Node) → KeepsPieces old now → IsHeld touched slots flow now n.0 n.1 n.2
      → RunsSoFar touched code slots flow old now list (n ∷ todo) fallen → RunsSoFar touched code slots flow old now list todo fallen
  runs-where-held now n todo fallen keeps h k = record { run = go (k.each n); table = k.table; each = k.each }
    where
      held : Holds touched code (causes now) n.0 n.1 n.2 → Run (causes now) todo fallen
      held x = then-step touched code (causes old) list (falling (causes now) (n ∷ todo) fallen (list ++ fallen)) (falling (causes now) todo fallen (list ++ fallen)) k.run (stays {n = n} x)

      certain : (u : Bool) → is_live (certain_at old n) ≡ u → cause_of (causes now) n ≡ certain_at old n → Run (causes now) todo fallen
      certain true e is =
          subst (λ why. Run why todo fallen) (given-same (causes now) n (certain_at old n) is)
          (then-step touched code (causes old) list (falling (causes now) (n ∷ todo) fallen (list ++ fallen)) (falling (given (causes now) n (certain_at old n)) todo fallen (list ++ fallen)) k.run (takes {n = n} (certain_at old n) (ap is_live is ∙ e) (certain-reason n e)))
      certain false e is = held (holds_dead (ap is_live is ∙ e))

      go : (cause_of (causes now) n ≡ cause_of (causes old) n) ⊎ (cause_of (causes now) n ≡ certain_at old n) → Run (causes now) todo fallen
      go (inl same) = held (holds-moves (c.held n.0 n.1 n.2 (held-first old now keeps touched slots flow n.0 n.1 n.2 same h)) (causes now) same)
      go (inr is) = certain (is_live (certain_at old n)) refl is

-- a piece that loses its cause
module _ (touched : Touched) (code : Code) (slots : Numbers) (flow : List BlockFlow) (old now new : List LaneRange) (list todo : List Node) (from to : List PieceSpot) (spot : PieceSpot) (c : IsCarriedOver touched code slots flow old list) (keeps : KeepsPieces old now)
    (live : is_live (causes now spot.lane spot.block spot.index) ≡ true) (gives : GivesCause now new (node_of spot) (certain_at now (node_of spot))) (lists : ListsFallen now spot from to) (k : RunsSoFar touched code slots flow old now list (node_of spot ∷ todo) (nodes_of from)) where
  abbrev n : Node
  n = node_of spot

  abbrev certain : Cause
  certain = certain_at now n

  abbrev ws : List Node
  ws = nodes_of from

  abbrev Ran : Causes → List Node → List Node → Type 0
  Ran why fallen asked = Falls touched code (falling (causes old) list [] list) (falling why todo fallen asked)

  has : HasGiven now new n certain
  has = row-cause-law now new n certain gives

  step : (e : Fall) → FallStep touched code (falling (causes now) (n ∷ todo) ws (list ++ ws)) e → Falls touched code (falling (causes old) list [] list) e
  step e s = then-step touched code (causes old) list (falling (causes now) (n ∷ todo) ws (list ++ ws)) e k.run s

  run-on : (u : Bool) → is_live certain ≡ u → Ran (causes new) (ws ++ nodes_of (unless_live u spot)) (list ++ (ws ++ nodes_of (unless_live u spot)))
  run-on true e =
      subst (λ fallen. Ran (causes new) fallen (list ++ fallen)) (sym (append-nil ws))
      (subst (λ why. Ran why ws (list ++ ws)) (sym has.causes_are)
      (step (falling (given (causes now) n certain) todo ws (list ++ ws)) (takes {n = n} certain live ((certain-cause-law code slots flow now k.table n.0 n.1 n.2).reason e))))
  run-on false e =
      subst (λ why. Ran why (ws ++ n ∷ []) (list ++ (ws ++ n ∷ []))) (ap (given (causes now) n) (sym (none-live certain e)) ∙ sym has.causes_are)
      (subst (λ asked. Ran (given (causes now) n reasons.None) (ws ++ n ∷ []) asked) (append_assoc list ws (n ∷ []))
      (step (falling (given (causes now) n reasons.None) todo (ws ++ n ∷ []) ((list ++ ws) ++ n ∷ [])) (falls {n = n})))

  each-on : (m : Node) → Given (causes now) n certain m → (cause_of (causes new) m ≡ cause_of (causes old) m) ⊎ (cause_of (causes new) m ≡ certain_at old m)
  each-on m (inl z) = inr (ap (λ why. cause_of why m) has.causes_are ∙ (z.2 ∙ (certain-kept old now keeps n ∙ ap (certain_at old) (sym z.1))))
  each-on m (inr z) = go (k.each m)
    where
      same : cause_of (causes new) m ≡ cause_of (causes now) m
      same = ap (λ why. cause_of why m) has.causes_are ∙ z.1

      go : (cause_of (causes now) m ≡ cause_of (causes old) m) ⊎ (cause_of (causes now) m ≡ certain_at old m) → (cause_of (causes new) m ≡ cause_of (causes old) m) ⊎ (cause_of (causes new) m ≡ certain_at old m)
      go (inl e) = inl (same ∙ e)
      go (inr e) = inr (same ∙ e)

  pub runs-where-lost : RunsSoFar touched code slots flow old new list todo (nodes_of to)
  runs-where-lost = record {
    run = subst (λ fallen. Ran (causes new) fallen (list ++ fallen)) (sym (ap nodes_of lists ∙ map-append node_of from (unless_live (is_live certain) spot))) (run-on (is_live certain) refl);
    table = has.table code slots flow k.table;
    each = λ m. each-on m (given-cases (causes now) n certain m);
  }

-- the pieces that are still to be looked at
todo-is : (suspects : List PieceSpot) (k : ℕ) (d : PieceSpot) → k < length suspects → nodes_of (drop k suspects) ≡ node_of (get_or suspects k d) ∷ nodes_of (drop (k + 1) suspects)
todo-is suspects k d inside = ap nodes_of (drop-cons suspects k d inside) ∙ ap (λ m. node_of (get_or suspects k d) ∷ nodes_of (drop m suspects)) (sym (add-one k))

-- so many of the suspects have been looked at
pub record LooksSoFar (ids : List ℕ) (slots : Numbers) (flow : List BlockFlow) (old now : LoggedRows) (suspects : List PieceSpot) (k : ℕ) (fallen : List PieceSpot) : Type 0 where
  pub looked : (touched : Touched) (code : Code) → AreTold touched ids → IsCarriedOver touched code slots flow old.rows.rows.items (nodes_of suspects)
      → RunsSoFar touched code slots flow old.rows.rows.items now.rows.rows.items (nodes_of suspects) (nodes_of (drop k suspects)) (nodes_of fallen)
  pub pieces : KeepsPieces old.rows.rows.items now.rows.rows.items
  pub logged : LogsLives old now

module _ (ids : List ℕ) (slots : Numbers) (flow : List BlockFlow) (old now : LoggedRows) (suspects : List PieceSpot) (k : ℕ) (from : List PieceSpot) (d : PieceSpot) (inside : k < length suspects) (s : LooksSoFar ids slots flow old now suspects k from) where
  abbrev rows : List LaneRange
  rows = now.rows.rows.items

  abbrev spot : PieceSpot
  spot = get_or suspects k d

  runs-to : (touched : Touched) (code : Code) → AreTold touched ids → IsCarriedOver touched code slots flow old.rows.rows.items (nodes_of suspects)
      → RunsSoFar touched code slots flow old.rows.rows.items rows (nodes_of suspects) (node_of spot ∷ nodes_of (drop (k + 1) suspects)) (nodes_of from)
  runs-to touched code told carried =
      subst (λ todo. RunsSoFar touched code slots flow old.rows.rows.items rows (nodes_of suspects) todo (nodes_of from)) (todo-is suspects k d inside)
      (s.looked touched code told carried)

  pub stays-so-far : ((touched : Touched) → AreTold touched ids → AllRise slots rows → IsHeld touched slots flow rows spot.lane spot.block spot.index) → LooksSoFar ids slots flow old now suspects (k + 1) from
  stays-so-far held = record {
    looked = λ touched code told carried.
        let l = runs-to touched code told carried in
        runs-where-held touched code slots flow old.rows.rows.items (nodes_of suspects) carried rows (node_of spot) (nodes_of (drop (k + 1) suspects)) (nodes_of from) s.pieces
        (held touched told (piece-law code slots flow rows l.table)) l;
    pieces = s.pieces;
    logged = s.logged;
  }

  pub loses-so-far : (new : LoggedRows) (to : List PieceSpot) → is_live (causes rows spot.lane spot.block spot.index) ≡ true → LosesCause rows new.rows.rows.items spot → ListsFallen rows spot from to
      → KeepsPieces rows new.rows.rows.items → LogsLives now new → LooksSoFar ids slots flow old new suspects (k + 1) to
  loses-so-far new to live loses lists keeps logged = record {
    looked = λ touched code told carried.
        runs-where-lost touched code slots flow old.rows.rows.items rows new.rows.rows.items (nodes_of suspects) (nodes_of (drop (k + 1) suspects)) from to spot carried s.pieces live
        (loses (live-there rows spot.lane spot.block spot.index live)) lists (runs-to touched code told carried);
    pieces = pieces-then old.rows.rows.items rows new.rows.rows.items s.pieces keeps;
    logged = lives-then old now new s.logged logged;
  }
