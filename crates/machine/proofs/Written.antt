-- The pieces of output follow one another, and are no longer than the units that were spent allow.
use Rattle.std.proofs.Common.{◌≡◌, ℕ, zero, suc, ◌+◌, ◌*◌, ◌<◌, ◌≤◌, Bool, true, false, Option, Some, None, List, ◌++◌, length, refl, sym, ap, ◌∙◌, subst, arith, eqb, length-append, append-nil}
use Rattle.std.specs.Prelude.{OnSome}
use Rattle.std.proofs.lemmas.Bool.Decides.{nat_tests}
use Rattle.elf_image.specs.Layout.{first_word}
use Rattle.rv_execute.specs.declared.op.Op.{Op}
use Rattle.rv_execute.specs.declared.op.Op.TheVariants.{Place}
use Rattle.syscall_drain.specs.declared.ask.CoreAsk.TheVariants.{Touch as Touches}
use Rattle.syscall_drain.specs.declared.ask.Answer.TheVariants.{Taken as Took}
use Rattle.syscall_drain.specs.Locals.{Local, opening_local}
use Rattle.syscall_drain.specs.Units.{next_ask, answered, placed}
use Rattle.syscall_drain.specs.Pieces.{Piece, PlacesBytes, piece_at, bytes_placed}
use Rattle.syscall_drain.specs.Sound.{IsSound, due}
use Rattle.syscall_drain.proofs.Units.{answered_due, places_bytes, output_asked, output_short, output_places, spent_places_nothing}
use Rattle.order_core.specs.SetAt.{set_at}
use Rattle.machine.specs.Setups.{Setup, core_count}
use Rattle.machine.specs.States.{Core, Word, State, opening}
use Rattle.machine.specs.Steps.{Finding, NoAccess, Accessed, core_given, tags_given, answer_to, found_in, touched, quiet, took, left, step, step_by}
use Rattle.machine.specs.Outcomes.{bytes_in}
use Rattle.machine.proofs.SetAt.{set_at_here, set_at_there, total, total_set}
use Rattle.machine.proofs.Output.{FollowFrom, bytes_in_more, follow_more}
use Rattle.machine.proofs.ByAsk.{asks_word, left_payload, left_pieces}
use Rattle.machine.proofs.Reached.{IsReached}

-- how many bytes of a core wait for their place
abbrev pub waiting : Core → ℕ
waiting c = due c.local

-- the output after so many units
pub record IsWritten (s : Setup) (t : State) (count : ℕ) : Type 0 where
  pub follow : FollowFrom 0 (t.words 1).pieces
  pub written : (t.words 1).payload ≡ length (bytes_in (t.words 1).pieces)
  pub room : length (bytes_in (t.words 1).pieces) + total waiting t.cores (core_count s) ≤ 4 * count

given_waiting : (s : Setup) (c : Core) (finding : Finding) → IsSound c.local → waiting (core_given s c finding) ≤ waiting c + 4
unfolding core_given
given_waiting s c finding sound = answered_due s.program s.budget c.local (answer_to (next_ask s.program c.local) finding (tags_given s c finding)) sound

-- one core changed, and no more is due than four bytes
room_more : (cores : ℕ → Core) (n c bytes count : ℕ) (after : Core) → c < n → bytes + total waiting cores n ≤ 4 * count → waiting after ≤ waiting (cores c) + 4 → bytes + total waiting (set_at cores c after) n ≤ 4 * (count + 1)
room_more cores n c bytes count after below room more = omega (arith, total_set waiting cores c after n below)

quiet_written : (s : Setup) (t : State) (count c : ℕ) → IsSound (t.cores c).local → IsWritten s t count → c < core_count s → IsWritten s (step_by s t c None) (count + 1)
unfolding quiet
quiet_written s t count c sound h below = record {
  follow = h.follow;
  written = h.written;
  room = room_more t.cores (core_count s) c _ count _ below h.room (given_waiting s (t.cores c) NoAccess sound);
}

took_waiting : (s : Setup) (c : Core) (w : Word) → IsSound c.local → waiting (took s c w) ≤ waiting c + 4
unfolding took
took_waiting s c w sound = given_waiting s c (Accessed (found_in s w) w.tag) sound

-- an access to another word leaves the output as it was
elsewhere_written : (s : Setup) (t : State) (count c n : ℕ) → IsSound (t.cores c).local → IsWritten s t count → c < core_count s → (n ≡ 1 → ⊥) → IsWritten s (step_by s t c (Some n)) (count + 1)
elsewhere_written s t count c n sound h below other =
    let same : set_at t.words n (left s (t.cores c) (t.words n)) 1 ≡ t.words 1 = set_at_there t.words n (left s (t.cores c) (t.words n)) 1 (λ e. other (sym e)) in
    record {
      follow = rw same h.follow;
      written = rw same h.written;
      room = rw same (room_more t.cores (core_count s) c _ count _ below h.room (took_waiting s (t.cores c) (t.words n) sound));
    }

-- ---- an access to the word of the output

-- the core after it, by the answer that it gave
took_local : (s : Setup) (c : Core) (w : Word) (n : ℕ) (op : Op) → next_ask s.program c.local ≡ Touches n op → (took s c w).local ≡ answered s.program s.budget c.local (Took (found_in s w))
unfolding took core_given
took_local s c w n op asks = ap (λ ask. answered s.program s.budget c.local (answer_to ask (Accessed (found_in s w) w.tag) (tags_given s c (Accessed (found_in s w) w.tag)))) asks

took_places : (s : Setup) (c : Core) (w : Word) (n : ℕ) (op : Op) → c.local.ending ≡ None → IsSound c.local → next_ask s.program c.local ≡ Touches n op → PlacesBytes s.program c.local (took s c w).local (placed s.program c.local (Took (found_in s w)))
took_places s c w n op running sound asks =
    subst (λ (l : Local). PlacesBytes s.program c.local l (placed s.program c.local (Took (found_in s w)))) (sym (took_local s c w n op asks))
    (places_bytes s.program s.budget c.local (Took (found_in s w)) running sound)

-- its pieces and its payload: a claim that is not spent adds what was gathered at the end
record IsClaimed (w after : Word) (gathered : List ℕ) (place : Option ℕ) : Type 0 where
  pieces : after.pieces ≡ w.pieces ++ piece_at place gathered
  payload : after.payload ≡ w.payload + length (bytes_placed place gathered)
  here : OnSome place (place ≡ Some w.payload)

claimed : (s : Setup) (c : Core) (w : Word) (op : Op) → c.local.ending ≡ None → IsSound c.local → next_ask s.program c.local ≡ Touches 1 op → w.payload + length c.local.gathered < 4294967296 → IsClaimed w (left s c w) c.local.gathered (placed s.program c.local (Took (found_in s w)))
claimed s c w op running sound asks room = by_spent (found_in s w).spent refl
  where
    asked : op ≡ Place (length c.local.gathered)
    asked = output_asked s.program c.local op running sound asks

    by_spent : (b : Bool) → (found_in s w).spent ≡ b → IsClaimed w (left s c w) c.local.gathered (placed s.program c.local (Took (found_in s w)))
    by_spent true spent = record {
      pieces = left_pieces s c w;
      payload = rw (left_payload s c w 1 op asks, spent_places_nothing s.program c.local (found_in s w) spent, spent) (omega arith);
      here = rw (spent_places_nothing s.program c.local (found_in s w) spent) tt;
    }
    by_spent false spent = record {
      pieces = left_pieces s c w;
      payload = rw (left_payload s c w 1 op asks, output_places s.program c.local (found_in s w) op asks spent, spent, asked) (omega arith);
      here = rw (output_places s.program c.local (found_in s w) op asks spent) refl;
    }

-- the pieces and the output with a piece more, or with none
record HasGrown (w after : Word) (count : ℕ) : Type 0 where
  follow : FollowFrom 0 after.pieces
  written : after.payload ≡ length (bytes_in after.pieces)
  more : length (bytes_in after.pieces) ≡ length (bytes_in w.pieces) + count

grown : (w after : Word) (gathered : List ℕ) (place : Option ℕ) → FollowFrom 0 w.pieces → w.payload ≡ length (bytes_in w.pieces) → IsClaimed w after gathered place → HasGrown w after (length (bytes_placed place gathered))
grown w after gathered None follow written claim =
    let same : after.pieces ≡ w.pieces = claim.pieces ∙ append-nil w.pieces in
    record {
      follow = rw same follow;
      written = rw (claim.payload, same) (omega (arith, written));
      more = rw same (omega arith);
    }
grown w after gathered (Some place) follow written claim =
    let piece : Piece = record { place = place; bytes = gathered } in
    let at : place ≡ w.payload = cc in
    let all : bytes_in after.pieces ≡ bytes_in w.pieces ++ gathered = ap bytes_in claim.pieces ∙ bytes_in_more w.pieces piece in
    record {
      follow = rw claim.pieces (follow_more w.pieces 0 piece follow (omega (arith, written, at)));
      written = rw (claim.payload, all) (simp length-append (omega (arith, written)));
      more = rw all (simp length-append refl);
    }

claim_written : (s : Setup) (t : State) (count c : ℕ) (op : Op) → IsSound (t.cores c).local → IsWritten s t count → c < core_count s → (t.cores c).local.ending ≡ None → count ≤ 8388608 → next_ask s.program (t.cores c).local ≡ Touches 1 op → IsWritten s (step_by s t c (Some 1)) (count + 1)
claim_written s t count c op sound h below running few asks =
    let core : Core = t.cores c in
    let word : Word = t.words 1 in
    let place : Option ℕ = placed s.program core.local (Took (found_in s word)) in
    let places : PlacesBytes s.program core.local (took s core word).local place = took_places s core word 1 op running sound asks in
    let all : total waiting (set_at t.cores c (took s core word)) (core_count s) + waiting core ≡ total waiting t.cores (core_count s) + waiting (took s core word) = total_set waiting t.cores c (took s core word) (core_count s) below in
    let gathers : length core.local.gathered ≤ 4096 = output_short s.program core.local op running sound asks in
    let claim : IsClaimed word (left s core word) core.local.gathered place = claimed s core word op running sound asks (omega (arith, h.room, h.written)) in
    let more : HasGrown word (left s core word) (length (bytes_placed place core.local.gathered)) = grown word (left s core word) core.local.gathered place h.follow h.written claim in
    let here : set_at t.words 1 (left s core word) 1 ≡ left s core word = set_at_here t.words 1 (left s core word) in
    record {
      follow = rw here more.follow;
      written = rw here more.written;
      room = rw here (omega (arith, all, more.more, places.few, h.room));
    }

took_written : (s : Setup) (t : State) (count c n : ℕ) → IsSound (t.cores c).local → IsWritten s t count → c < core_count s → (t.cores c).local.ending ≡ None → count ≤ 8388608 → touched s (t.cores c) ≡ Some n → IsWritten s (step_by s t c (Some n)) (count + 1)
took_written s t count c n sound h below running few e = by_word (eqb n 1) (grind (arith, nat_tests)) (grind (arith, nat_tests))
  where
    by_word : (b : Bool) → (b ≡ true → n ≡ 1) → (b ≡ false → n ≡ 1 → ⊥) → IsWritten s (step_by s t c (Some n)) (count + 1)
    by_word true one other =
        let asks = asks_word s (t.cores c) 1 (rw (one refl) at e) in
        rw (one refl) (claim_written s t count c asks.0 sound h below running few asks.1)
    by_word false one other = elsewhere_written s t count c n sound h below (other refl)

pub step_written : (s : Setup) (t : State) (count c : ℕ) → IsReached s t count → IsWritten s t count → c < core_count s → (t.cores c).local.ending ≡ None → count ≤ 8388608 → IsWritten s (step s t c) (count + 1)
unfolding step
step_written s t count c reached h below running few = by_touch (touched s (t.cores c)) refl
  where
    by_touch : (word : Option ℕ) → touched s (t.cores c) ≡ word → IsWritten s (step_by s t c word) (count + 1)
    by_touch None e = quiet_written s t count c (reached.cores c).sound h below
    by_touch (Some n) e = took_written s t count c n (reached.cores c).sound h below running few e

total_none : (s : Setup) (n : ℕ) → total waiting (opening s).cores n ≡ 0
unfolding total opening_local
total_none s zero = refl
total_none s (suc n) = rw (total_none s n) refl

pub opening_written : (s : Setup) → IsWritten s (opening s) 0
unfolding opening_local first_word
opening_written s = record {
  follow = tt;
  written = refl;
  room = omega (arith, total_none s (core_count s));
}
