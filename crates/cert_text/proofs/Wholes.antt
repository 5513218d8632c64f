-- The text of a certificate has no fault.
use Rattle.std.proofs.Common.{◌≡◌, ℕ, List, [], ◌++◌, sym}
use Rattle.std.specs.Prelude.{Result, Ok, Err}
use Rattle.std.proofs.lemmas.List.{append-nil}
use Rattle.cert_text.specs.declared.value.CertText.{CertText}
use Rattle.cert_text.specs.declared.value.CertFault.{CertFault}
use Rattle.cert_text.specs.declared.value.CertFault.TheVariants.{BadHeader, BadLine, Truncated, Trailing, Memory}
use Rattle.cert_text.specs.Certs.{IsCert, cert_text}
use Rattle.cert_text.specs.Answers.{IsBadLine, IsRead, IsAnswerOf, WholesAreRead}
use Rattle.cert_text.proofs.Apart.{texts_are_apart}

not_bad : (cert : CertText) (count : ℕ) → IsCert cert → IsBadLine (cert_text cert) count → ⊥
not_bad cert count is bad = bad.not_whole cert [] (is, sym (append-nil (cert_text cert)))

pub wholes_are_read : WholesAreRead
wholes_are_read cert (Ok other) is read = sym (texts_are_apart cert other [] is read).0
wholes_are_read cert (Err BadHeader) is read = not_bad cert 0 is read
wholes_are_read cert (Err (BadLine at)) is read = not_bad cert read.0 is read.3
wholes_are_read cert (Err Truncated) is read = read.3 (texts_are_apart read.0 cert read.1 read.2.0 (is, read.2.1)).1
wholes_are_read cert (Err (Trailing at)) is read = read.3 (texts_are_apart cert read.0 read.1 is read.2).1
wholes_are_read cert (Err (Memory fault)) is read = tt
