-- The seats of a new run, core by core.
use Rattle.std.proofs.Common.{◌≡◌, ℕ, suc, ◌+◌, ◌-◌, ◌<◌, ◌≤◌, List, [], ◌∷◌, ◌++◌, length, remove, slice_get, Some, sym, ap, ◌∙◌, arith, length-append, ⊎_elim}
use Rattle.std.specs.Prelude.{slice_index_or}
use Rattle.std.proofs.lemmas.Option.{slice_get_within}
use Rattle.std.proofs.lemmas.List.{length-replicate}
use Rattle.std.proofs.lemmas.List.FromFn.{length-map-range_with_len}
use Rattle.elf_image.specs.Layout.{words_of, first_word}
use Rattle.record_lane.specs.declared.record.Record.{Record}
use Rattle.record_lane.specs.declared.reply.Reply.{Reply}
use Rattle.record_lane.specs.declared.ring.Ring.{Ring}
use Rattle.record_lane.specs.declared.lane.Lane.{Lane}
use Rattle.record_lane.specs.Rings.{bound_of as ring_bound, word_count_of, top_of, IsSenderOf as SendsToRing, IsTakerOf as TakesFromRing}
use Rattle.record_lane.specs.Lanes.{bound_of, IsSenderOf as SendsToLane, IsTakerOf as TakesFromLane}
use Rattle.ticket_table.specs.History.{Basis}
use Rattle.ticket_table.specs.Passes.{PassSeen, TableSeen, IsPassOf, fresh, fresh_from}
use Rattle.ticket_table.proofs.Places.{get_at_end}
use Rattle.machine.specs.Setups.{Setup, core_count}
use Rattle.hart_actor.specs.Harts.{Hart}
use Rattle.hart_actor.specs.Objects.{AreOf as AreOfHart}
use Rattle.tag_actor.specs.Seen.{TagActorSeen}
use Rattle.tag_actor.specs.Turns.{AreOf as AreOfTagger}
use Rattle.live_run.specs.declared.opening.Seat.{Seat}
use Rattle.live_run.specs.declared.opening.Seats.{Seats}
use Rattle.live_run.specs.Seats.{AreTables, AreSeats, IsSeat}
use Rattle.live_run.specs.Beginnings.{IsNewHart, IsNewFollower, HaveBound, AreFirstSeats}

-- ---- passes

fresh_more : (t : TableSeen) (core count rest : ℕ) → count ≡ suc rest → fresh_from t.table t.basis.terms core count ≡ fresh t.table t.basis.terms core ∷ fresh_from t.table t.basis.terms (core + 1) rest
fresh_more t core count rest e = ap (fresh_from t.table t.basis.terms core) e

-- the first pass of those from a core on, and the others
pub record IsDealt (t : TableSeen) (core count : ℕ) (pass : PassSeen) (others : List PassSeen) : Type 0 where
  pub pass_is : pass ≡ fresh t.table t.basis.terms core
  pub others_are : others ≡ fresh_from t.table t.basis.terms (core + 1) (count - (core + 1))

pub deals_next : (t : TableSeen) (core count : ℕ) (old new : List PassSeen) (pass : PassSeen) → core < count → old ≡ fresh_from t.table t.basis.terms core (count - core)
    → pass ≡ slice_index_or old 0 pass → new ≡ remove old 0 → IsDealt t core count pass new
deals_next t core count old new pass below are first rest =
    let e : old ≡ fresh t.table t.basis.terms core ∷ fresh_from t.table t.basis.terms (core + 1) (count - (core + 1)) = are ∙ fresh_more t core (count - core) (count - (core + 1)) (omega arith) in
    record {
      pass_is = first ∙ ap (λ (ps : List PassSeen). slice_index_or ps 0 pass) e;
      others_are = rest ∙ ap (λ (ps : List PassSeen). remove ps 0) e;
    }

pub new_pass : (t : TableSeen) (pass : PassSeen) (core : ℕ) → pass ≡ fresh t.table t.basis.terms core → IsPassOf t pass
new_pass t pass core is = (ap (λ (p : PassSeen). p.table) is, ap (λ (p : PassSeen). p.terms) is)

-- ---- one core

pub top_is : (limit limit_is count count_is : ℕ) → limit ≡ limit_is → count ≡ count_is → limit + count ≡ limit_is + count_is
top_is limit limit_is count count_is a b = omega (arith, a, b)

data_words : (s : Setup) (memory tags : TableSeen) → AreTables s memory tags → length memory.basis.first ≡ words_of s.program.layout
data_words s memory tags tables =
    ap (λ (b : Basis). length b.first) tables.memory ∙ length-map-range_with_len (first_word s.program.layout) 0 (words_of s.program.layout)

tag_words : (s : Setup) (memory tags : TableSeen) → AreTables s memory tags → length tags.basis.first ≡ words_of s.program.layout
tag_words s memory tags tables = ap (λ (b : Basis). length b.first) tables.tags ∙ length-replicate (words_of s.program.layout) 0

pub hart_of : (s : Setup) (memory tags : TableSeen) (hart : Hart) (items : Ring Record) (replies : Lane Reply) → AreTables s memory tags → hart.program ≡ s.program → IsPassOf memory hart.pass
    → SendsToRing items hart.sender → TakesFromLane replies hart.taker → word_count_of items ≡ words_of s.program.layout → top_of items ≡ s.limit + core_count s
    → AreOfHart hart s.program memory items replies
hart_of s memory tags hart items replies tables guest pass sender taker words top = record {
  guest = guest;
  words = data_words s memory tags tables;
  pass = pass;
  sender = sender;
  taker = taker;
  item_words = words ∙ sym (data_words s memory tags tables);
  item_top = top ∙ sym (ap (λ (b : Basis). b.terms.limit + b.terms.callers) tables.memory);
}

pub follower_of : (s : Setup) (memory tags : TableSeen) (follower : TagActorSeen) (items : Ring Record) (replies : Lane Reply) → AreTables s memory tags → IsPassOf tags follower.pass
    → TakesFromRing items follower.taker → SendsToLane replies follower.sender → bound_of replies ≡ 1
    → word_count_of items ≡ words_of s.program.layout → words_of s.program.layout ≤ 4294967295 → top_of items ≡ s.limit + core_count s → s.limit + core_count s ≤ 4294967294
    → AreOfTagger tags items replies follower
follower_of s memory tags follower items replies tables pass taker sender one words few top low = record {
  pass = pass;
  taker = taker;
  sender = sender;
  one_reply = one;
  words = words ∙ sym (tag_words s memory tags tables);
  top = top ∙ sym (ap (λ (b : Basis). b.terms.limit + b.terms.callers) tables.tags);
  few_words = omega (arith, words, few);
  few_numbers = omega (arith, top, low);
}

-- ---- all cores

earlier : {A : Type 0} (xs : List A) (x y : A) (i count : ℕ) → length xs ≡ count → i < count → slice_get (xs ++ x ∷ []) i ≡ Some y → slice_get xs i ≡ Some y
earlier xs x y i count size below at = ⊎_elim (λ found. found) (λ at_end. absurd (omega (arith, at_end.0, size, below))) (get_at_end xs x y i at)

last : {A : Type 0} (xs : List A) (x y : A) (i count : ℕ) → length xs ≡ count → i ≡ count → slice_get (xs ++ x ∷ []) i ≡ Some y → x ≡ y
last xs x y i count size same at = ⊎_elim (λ found. absurd (omega (arith, slice_get_within xs i y found, size, same))) (λ at_end. at_end.1) (get_at_end xs x y i at)

pub seats_more : (s : Setup) (memory tags : TableSeen) (count : ℕ) (old new : Seats) (seat : Seat) → AreFirstSeats s memory tags count old
    → IsSeat s memory tags count seat.hart seat.follower seat.items seat.replies → IsNewHart s count seat.hart × IsNewFollower s seat.follower
    → new.harts.items ≡ old.harts.items ++ seat.hart ∷ [] → new.followers.items ≡ old.followers.items ++ seat.follower ∷ []
    → new.items.items ≡ old.items.items ++ seat.items ∷ [] → new.replies.items ≡ old.replies.items ++ seat.replies ∷ []
    → AreFirstSeats s memory tags (count + 1) new
seats_more s memory tags count old new seat so_far is is_new harts followers items replies = record {
  hart_count = rw harts (simp length-append (omega (arith, so_far.hart_count)));
  follower_count = rw followers (simp length-append (omega (arith, so_far.follower_count)));
  item_count = rw items (simp length-append (omega (arith, so_far.item_count)));
  reply_count = rw replies (simp length-append (omega (arith, so_far.reply_count)));
  are = are;
  are_new = record { harts = new_hart; followers = new_follower };
}
  where
    new_hart : (core : ℕ) (hart : Hart) → slice_get new.harts.items core ≡ Some hart → IsNewHart s core hart
    new_hart core hart at = ⊎_elim
        (λ earlier. so_far.are_new.harts core hart earlier)
        (λ last. rw (last.0 ∙ so_far.hart_count, ← last.1) is_new.0)
        (get_at_end old.harts.items seat.hart hart core (rw harts at at))

    new_follower : (core : ℕ) (follower : TagActorSeen) → slice_get new.followers.items core ≡ Some follower → IsNewFollower s follower
    new_follower core follower at = ⊎_elim
        (λ earlier. so_far.are_new.followers core follower earlier)
        (λ last. rw (← last.1) is_new.1)
        (get_at_end old.followers.items seat.follower follower core (rw followers at at))

    are : (core : ℕ) (hart : Hart) (follower : TagActorSeen) (ring : Ring Record) (lane : Lane Reply)
        → slice_get new.harts.items core ≡ Some hart → slice_get new.followers.items core ≡ Some follower → slice_get new.items.items core ≡ Some ring → slice_get new.replies.items core ≡ Some lane
        → IsSeat s memory tags core hart follower ring lane
    are core hart follower ring lane hart_at follower_at ring_at lane_at = ⊎_elim
        (λ found. let below : core < count = omega (arith, slice_get_within old.harts.items core hart found, so_far.hart_count) in
        so_far.are core hart follower ring lane found
        (earlier old.followers.items seat.follower follower core count so_far.follower_count below (rw followers at follower_at))
        (earlier old.items.items seat.items ring core count so_far.item_count below (rw items at ring_at))
        (earlier old.replies.items seat.replies lane core count so_far.reply_count below (rw replies at lane_at)))
        (λ at_end. let same : core ≡ count = at_end.0 ∙ so_far.hart_count in
        rw (
          same,
          ← at_end.1,
          ← last old.followers.items seat.follower follower core count so_far.follower_count same (rw followers at follower_at),
          ← last old.items.items seat.items ring core count so_far.item_count same (rw items at ring_at),
          ← last old.replies.items seat.replies lane core count so_far.reply_count same (rw replies at lane_at),
        ) is)
        (get_at_end old.harts.items seat.hart hart core (rw harts at hart_at))

pub bound_more : (bound : ℕ) (old new : List (Ring Record)) (ring : Ring Record) → HaveBound bound old → ring_bound ring ≡ bound → new ≡ old ++ ring ∷ [] → HaveBound bound new
bound_more bound old new ring so_far is more core other at = ⊎_elim
    (λ earlier. so_far core other earlier)
    (λ last. rw (← last.1) is)
    (get_at_end old ring other core (rw more at at))

pub are_seats : (s : Setup) (memory tags : TableSeen) (seats : Seats) → AreFirstSeats s memory tags (core_count s) seats → AreSeats s memory tags seats.harts.items seats.followers.items seats.items.items seats.replies.items
are_seats s memory tags seats first = record {
  hart_count = first.hart_count;
  follower_count = first.follower_count;
  item_count = first.item_count;
  reply_count = first.reply_count;
  seats = first.are;
}
