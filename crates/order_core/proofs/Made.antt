-- The steps of the protocol machine as the code makes them: a core is read, changed and put back.
use Rattle.std.proofs.Common.{◌≡◌, ◌⊎◌, ℕ, zero, suc, ◌+◌, ◌<◌, List, length, set, get_or, Bool, true, false, Option, Some, None, IfSome, find, refl, sym, ap, subst, ◌∙◌, inl, inr, arith, add-one}
use Rattle.std.proofs.lemmas.Bool.{cases_eq}
use Rattle.std.proofs.lemmas.List.{get_or_read}
use Rattle.std.specs.Option.{option_map_or}
use Rattle.order_core.specs.declared.shape.Shape.{Shape}
use Rattle.order_core.specs.declared.shape.Move.{Move}
use Rattle.order_core.specs.declared.shape.Move.TheVariants.{Send, Serve, Reply, Resume}
use Rattle.order_core.specs.declared.shape.Queued.{Queued}
use Rattle.order_core.specs.declared.shape.CoreQueue.{CoreQueue}
use Rattle.order_core.specs.WordBelow.{IsWordBelow}
use Rattle.order_core.specs.Protocol.{no_core, is_free, can_send, first_of, can_serve, can_reply, committed, sent, without_first, replied, set_going, Protocol, number_of, counted, served_after, can_commit, can_act, moves_of, moves_below, some_move}
use Rattle.order_core.specs.Reachable.{IsProtocol}
use Rattle.order_core.proofs.Queue.{there}
use Rattle.order_core.proofs.Steps.{is_first, word_below}
use Rattle.order_core.proofs.Rest.{sound_protocol, protocol_commit, protocol_act, find_none_append, find_some_append}

-- ---- the search

pub find_found : (s : Protocol) (core count : ℕ) (step : Move) → find (can_act s) (moves_below core) ≡ None → find (can_act s) (moves_of core) ≡ Some step → core < count → find (can_act s) (moves_below count) ≡ Some step
find_found s core zero step e f h = absurd (omega arith)
find_found s core (suc count) step e f h = go (cases_eq core count) (find_found s core count step e f)
  where
    go : (core ≡ count) ⊎ (core ≡ count → ⊥) → (core < count → find (can_act s) (moves_below count) ≡ Some step) → find (can_act s) (moves_below (suc count)) ≡ Some step
    go (inl same) rest =
        let none = ap (λ (n : ℕ). find (can_act s) (moves_below n)) (sym same) ∙ e in
        let some = ap (λ (n : ℕ). find (can_act s) (moves_of n)) (sym same) ∙ f in
        find_none_append (can_act s) (moves_below count) (moves_of count) none ∙ some
    go (inr apart) rest = find_some_append (can_act s) (moves_below count) (moves_of count) step (rest (omega arith))

pub find_more : (s : Protocol) (core : ℕ) → find (can_act s) (moves_below core) ≡ None → find (can_act s) (moves_of core) ≡ None → find (can_act s) (moves_below (core + 1)) ≡ None
find_more s core e f = rw add-one (find_none_append (can_act s) (moves_below core) (moves_of core) e ∙ f)

-- ---- the steps

module _ (cores : List CoreQueue) (drawn served : List ℕ) (v : Protocol) (view : record { cores = cores; drawn = drawn; served = served } ≡ v) (core : ℕ) (read : CoreQueue) (is : read ≡ get_or cores core read) where
  s : Protocol
  s = record { cores = cores; drawn = drawn; served = served }

  here : (test : CoreQueue → Bool) → test no_core ≡ false → test (get_or cores core no_core) ≡ true → read ≡ get_or cores core no_core
  here test none some = get_or_read cores core read (there test cores core none some) is no_core

  enabled : (step : Move) → can_act v step ≡ true → can_act (record { cores = cores; drawn = drawn; served = served }) step ≡ true
  enabled step e = ap (λ (w : Protocol). can_act w step) view ∙ e

  pub made_send : (after : CoreQueue) → IsProtocol (record { cores = cores; drawn = drawn; served = served }) → can_act v (Send core) ≡ true → after ≡ sent read → IsProtocol (record { cores = set cores core after; drawn = drawn; served = served })
  made_send after p e made =
      let P : CoreQueue → Type 0 = λ k. IsProtocol (record { cores = set cores core k; drawn = drawn; served = served }) in
      subst P (sym (made ∙ ap sent (here can_send refl (enabled (Send core) e)))) (protocol_act (record { cores = cores; drawn = drawn; served = served }) (Send core) p (enabled (Send core) e))

  pub made_reply : (after : CoreQueue) → IsProtocol (record { cores = cores; drawn = drawn; served = served }) → can_act v (Reply core) ≡ true → after ≡ replied read → IsProtocol (record { cores = set cores core after; drawn = drawn; served = served })
  made_reply after p e made =
      let P : CoreQueue → Type 0 = λ k. IsProtocol (record { cores = set cores core k; drawn = drawn; served = served }) in
      subst P (sym (made ∙ ap replied (here can_reply refl (enabled (Reply core) e)))) (protocol_act (record { cores = cores; drawn = drawn; served = served }) (Reply core) p (enabled (Reply core) e))

  pub made_resume : (after : CoreQueue) → IsProtocol (record { cores = cores; drawn = drawn; served = served }) → can_act v (Resume core) ≡ true → after ≡ set_going read → IsProtocol (record { cores = set cores core after; drawn = drawn; served = served })
  made_resume after p e made =
      let P : CoreQueue → Type 0 = λ k. IsProtocol (record { cores = set cores core k; drawn = drawn; served = served }) in
      subst P (sym (made ∙ ap set_going (here (λ (k : CoreQueue). k.reply) refl (enabled (Resume core) e)))) (protocol_act (record { cores = cores; drawn = drawn; served = served }) (Resume core) p (enabled (Resume core) e))

  pub made_serve : (after : CoreQueue) (counts : List ℕ) (queued : Queued) → IsProtocol (record { cores = cores; drawn = drawn; served = served }) → can_act v (Serve core) ≡ true → first_of read ≡ Some queued → after ≡ without_first read → counts ≡ counted served queued.shape
      → IsProtocol (record { cores = set cores core after; drawn = drawn; served = counts })
  made_serve after counts queued p e first made raised =
      let at = here (can_serve served) refl (enabled (Serve core) e) in
      let P : CoreQueue → Type 0 = λ k. IsProtocol (record { cores = set cores core k; drawn = drawn; served = counts }) in
      let Q : List ℕ → Type 0 = λ counts. IsProtocol (record { cores = set cores core (without_first (get_or cores core no_core)); drawn = drawn; served = counts }) in
      let counts_are : served_after served (first_of (get_or cores core no_core)) ≡ counts = ap (served_after served) (sym (ap first_of at) ∙ first) ∙ sym raised in
      subst P (sym (made ∙ ap without_first at)) (subst Q counts_are (protocol_act (record { cores = cores; drawn = drawn; served = served }) (Serve core) p (enabled (Serve core) e)))

  pub made_commit : (after : CoreQueue) (counts : List ℕ) (shape : Shape) (number : ℕ) → IsProtocol (record { cores = cores; drawn = drawn; served = served }) → can_commit v core ≡ true → IsWordBelow (length drawn) shape
      → number ≡ number_of drawn shape → after ≡ committed read shape number → counts ≡ counted drawn shape → IsProtocol (record { cores = set cores core after; drawn = counts; served = served })
  made_commit after counts shape number p e below number_is made raised =
      let free : can_commit (record { cores = cores; drawn = drawn; served = served }) core ≡ true = ap (λ (w : Protocol). can_commit w core) view ∙ e in
      let at = here is_free refl free in
      let P : CoreQueue → Type 0 = λ k. IsProtocol (record { cores = set cores core k; drawn = counts; served = served }) in
      let Q : List ℕ → Type 0 = λ counts. IsProtocol (record { cores = set cores core (committed (get_or cores core no_core) shape (number_of drawn shape)); drawn = counts; served = served }) in
      subst P (sym (made ∙ ap (committed read shape) number_is ∙ ap (λ (k : CoreQueue). committed k shape (number_of drawn shape)) at))
      (subst Q (sym raised) (protocol_commit (record { cores = cores; drawn = drawn; served = served }) core shape p free below))

  -- the word of the first record of a lane is there, and its service may go on
  first_word : (queued : Queued) → IsProtocol (record { cores = cores; drawn = drawn; served = served }) → core < length cores → first_of read ≡ Some queued
      → IsWordBelow (length served) queued.shape × (number_of served queued.shape < number_of drawn queued.shape ⊎ (number_of served queued.shape ≡ 0))
  first_word queued p lt first =
      let at = get_or_read cores core read lt is no_core in
      let f = is_first p.bound (record { cores = cores; drawn = drawn; served = served }) core (sound_protocol (record { cores = cores; drawn = drawn; served = served }) p) (λ (q : Queued). true)
      (ap (λ (o : Option Queued). option_map_or (λ (q : Queued). true) o false) (sym (ap first_of at) ∙ first)) in
      let same : f.queued ≡ queued = cc (sym f.first ∙ sym (ap first_of at) ∙ first) in
      let P : Queued → Type 0 = λ q. IsWordBelow (length served) q.shape × (number_of served q.shape < number_of drawn q.shape ⊎ (number_of served q.shape ≡ 0)) in
      subst P same (word_below p.bound (record { cores = cores; drawn = drawn; served = served }) core (sound_protocol (record { cores = cores; drawn = drawn; served = served }) p) f.queued f.rest lt f.pending_is (f.queued).shape refl)

  pub first_below : IsProtocol (record { cores = cores; drawn = drawn; served = served }) → core < length cores → IfSome (first_of read) (λ queued. IsWordBelow (length served) queued.shape)
  first_below p lt = go (first_of read) refl
    where
      go : (o : Option Queued) → first_of read ≡ o → IfSome o (λ queued. IsWordBelow (length served) queued.shape)
      go None e = tt
      go (Some queued) e = (first_word queued p lt e).0

  pub served_word : (queued : Queued) → IsProtocol (record { cores = cores; drawn = drawn; served = served }) → can_act v (Serve core) ≡ true → first_of read ≡ Some queued → IsWordBelow (length served) queued.shape
  served_word queued p e first = (first_word queued p (there (can_serve served) cores core refl (enabled (Serve core) e)) first).0

  pub served_fewer : (queued : Queued) → IsProtocol (record { cores = cores; drawn = drawn; served = served }) → can_act v (Serve core) ≡ true → first_of read ≡ Some queued
      → number_of served queued.shape < number_of drawn queued.shape ⊎ (number_of served queued.shape ≡ 0)
  served_fewer queued p e first = (first_word queued p (there (can_serve served) cores core refl (enabled (Serve core) e)) first).1

  pub served_there : can_act v (Serve core) ≡ true → core < length cores
  served_there e = there (can_serve served) cores core refl (enabled (Serve core) e)

-- ---- what the search finds

module _ (cores : List CoreQueue) (drawn served : List ℕ) (v : Protocol) (view : record { cores = cores; drawn = drawn; served = served } ≡ v) where
  pub value_protocol : IsProtocol (record { cores = cores; drawn = drawn; served = served }) → IsProtocol v
  value_protocol p = let P : Protocol → Type 0 = IsProtocol in subst P view p

  pub in_range_value : (shape : Shape) → IsWordBelow (length v.drawn) shape → IsWordBelow (length drawn) shape
  in_range_value shape h = let P : Protocol → Type 0 = λ w. IsWordBelow (length w.drawn) shape in subst P (sym view) h

  pub some_move_found : (core : ℕ) (step : Move) → find (can_act v) (moves_below core) ≡ None → Some step ≡ find (can_act v) (moves_of core) → core < length cores → Some step ≡ some_move v
  some_move_found core step none found h =
      let count = ap (λ (w : Protocol). length w.cores) view in
      sym (find_found v core (length v.cores) step none (sym found) (omega arith))

  pub some_move_none : (core : ℕ) → find (can_act v) (moves_below core) ≡ None → core ≡ length cores → None ≡ some_move v
  some_move_none core none e = sym (ap (λ (n : ℕ). find (can_act v) (moves_below n)) (sym (e ∙ ap (λ (w : Protocol). length w.cores) view)) ∙ none)
