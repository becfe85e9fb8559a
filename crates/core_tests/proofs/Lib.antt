mod RouteLemmas
