-- The similarity by distances, as assoc_mahalanobis has it.
pub use Rattle.assoc_mahalanobis.specs.Mahalanobis.{limit, mask, mh_dist, exponential, mh_dist_similarity}
unfoldable pub use Rattle.assoc_mahalanobis.specs.Mahalanobis.{normalized, similarity}
