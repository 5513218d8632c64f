-- Bytes without a line feed.
use Rattle.std.proofs.Common.{◌≡◌, ◌≢◌, ℕ, zero, suc, ◌+◌, ◌<◌, List, [], ◌∷◌, ◌++◌, length, take, get_or, sym, subst, arith}
use Rattle.std.proofs.lemmas.List.{take_more}
use Rattle.cert_text.specs.Rules.{HasNoFeed}
use Rattle.cert_text.proofs.Apart.{no_feed-append}

pub no_feed_more : (text : List ℕ) (i : ℕ) → i < length text → get_or text i 0 ≢ 10 → HasNoFeed (take i text) → HasNoFeed (take (i + 1) text)
no_feed_more text i within apart none =
    subst HasNoFeed (sym (take_more text i 0 within)) (no_feed-append (take i text) (get_or text i 0 ∷ []) none (apart, tt))
